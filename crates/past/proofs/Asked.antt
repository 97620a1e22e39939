-- Pasts added to marks, one asked after another: a transaction's cell by cell, and a version's with the commit that wrote it.
use Rattle.std.proofs.Common.{ℕ, ◌+◌, ◌-◌, ◌≤◌, add-one, ◌≡◌, sym, ◌∙◌, true, List}
use Rattle.rules.specs.history.Past.{up_to, last_of}
use Rattle.rules.proofs.steps.Tables.{both_ways}
use Rattle.ledger.specs.Entries.{Entry, entry_in, commit_row}
use Rattle.ledger.specs.Histories.{deeds_of, commits_in}
use Rattle.ledger.proofs.Commits.{up_to_first, up_to_opening}
use Rattle.past.specs.Marks.{past_of_transaction, past_of_version, source_place, marked, only, Adds, Closed}
use Rattle.past.proofs.Marking.{adds_none, adds_nothing, adds_both, closed_adds}
use Rattle.past.proofs.Pasts.{past_after, closed_past, version_past, own_past, cell_adds}

module _ (m : ℕ) (words : List ℕ) where
  -- ── A transaction's past ────────────────────────────────────────────

  module _ (count i : ℕ) (e : Entry) where
    -- What is added when the first so many cells have been asked.
    abbrev pub AddsCells : ℕ → ℕ → ℕ → Type 0
    AddsCells c marks seen = Adds (past_after m words count i (deeds_of e c)) marks seen

    -- The handler's last commit is asked before the first cell.
    pub adds_own : {own marks seen : ℕ} → own ≡ last_of (commits_in m words count) i → Adds (past_of_version m words own) marks seen
        → AddsCells 0 marks seen
    unfolding deeds_of
    adds_own last adds = rw (last, own_past m words count i) at adds

    -- One cell more is asked for its source.
    pub adds_cell : {marks seen after : ℕ} (c : ℕ) → AddsCells c marks seen
        → Adds (past_of_version m words (source_place (e.sources c) count)) seen after → AddsCells (c + 1) marks after
    adds_cell c cells one = rw (add-one c) (adds_both _ (cell_adds m words count i e c) cells one)

    -- The marks have still with each commit its past.
    pub closed_cells : {marks seen : ℕ} (c : ℕ) → Closed m words (marked marks) → AddsCells c marks seen → Closed m words (marked seen)
    closed_cells c closed cells = closed_adds m words closed (closed_past m words count i (deeds_of e c)) cells

  -- ── A version's past ────────────────────────────────────────────────

  -- Asked from no marks, the marks are the version's past among all commits that stand.
  pub version_marks : {place marks : ℕ} (count : ℕ) → place ≤ count → Adds (past_of_version m words place) 0 marks
      → marked marks ≡ up_to (commits_in m words count) place
  version_marks count stood adds = adds_none adds ∙ sym (up_to_first m words count _ stood)

  -- The opening's version adds nothing.
  pub adds_opening : (marks : ℕ) → Adds (past_of_version m words 0) marks marks
  adds_opening marks = adds_nothing _ marks (λ j there. both_ways there (up_to_opening m words 0 j))

  -- A commit that is marked already adds nothing.
  pub adds_again : (marks place : ℕ) → Closed m words (marked marks) → marked marks place ≡ true → Adds (past_of_version m words place) marks marks
  adds_again marks place closed there = adds_nothing _ marks (λ j. closed.holds place j there)

  -- Any other is marked after its transaction's past.
  pub adds_version : {marks seen after handler count : ℕ} {e : Entry} {sooner : List ℕ} (place : ℕ) → 1 ≤ place
      → e ≡ entry_in words (commit_row place) → handler ≡ e.head → (sooner ≡ words) × (count ≡ place - 1)
      → Adds (past_of_transaction m sooner count handler e) marks seen → Adds (only place) seen after → Adds (past_of_version m words place) marks after
  adds_version place h said own first past itself =
      adds_both _ (λ j. version_past m words place j h) (rw (first.0, first.1, own, said) at past) itself
