-- Laws of pasts over the judge's words: a past has with each commit its past; it is the past of the handler's last commit, and with
-- each cell that was read the past of the version read; and a version's past is that of the commit that wrote it.
use Rattle.std.proofs.Common.{ℕ, zero, suc, ◌-◌, ◌≤◌, arith, sub-one, ◌≡◌, refl, sym, ap, ◌∙◌, Bool, true, false, ◌||◌, List, [], leb, leb-true, leb-false}
use Rattle.rules.specs.steps.Figure.{version_shows}
use Rattle.rules.specs.history.History.{Deed, Commit}
use Rattle.rules.specs.history.Past.{InPast, before, UpTo, itself, behind, in_past, up_to, last_of}
use Rattle.rules.proofs.steps.Tables.{by, both_ways}
use Rattle.rules.proofs.history.Pasts.{past_none, past_look, past_set, past_last}
use Rattle.rules.proofs.history.Computed.{past_is, up_to_is}
use Rattle.ledger.specs.Entries.{Entry, entry_in, commit_row}
use Rattle.ledger.specs.Histories.{look_of, set_of, deeds_of, commits_in}
use Rattle.ledger.proofs.Commits.{commits_count, up_to_newest, up_to_first, up_to_opening, up_to_outside, last_stood}
use Rattle.past.specs.Marks.{past_of_transaction, past_of_version, source_place, only, Closed}

-- What a commit of a past has in its past is in that past.
through : {W : Type 0} {commits : List (Commit W)} {i k j : ℕ} {deeds : List (Deed W)}
    → InPast commits i deeds k → UpTo commits k j → InPast commits i deeds j
through there (itself stands) = there
through there (behind stands past) = before stands there past

-- The place that a source word names is none beyond the first so many.
pub source_stood : (source count : ℕ) {place : ℕ} → place ≡ source_place source count → place ≤ count
unfolding source_place
source_stood zero count same = omega arith
source_stood (suc source) count same = by (leb source count)
    (λ e. omega (arith, leb-true source count e, rw e at same))
    (λ e. omega (arith, rw e at same))

module _ (m : ℕ) (words : List ℕ) where
  -- The past of a handler's transaction with these deeds, after the first so many commits.
  abbrev pub past_after : ℕ → ℕ → List (Deed ℕ) → ℕ → Bool
  past_after count i deeds = in_past (commits_in m words count) i deeds

  -- A past has with each commit its past.
  pub closed_past : (count i : ℕ) (deeds : List (Deed ℕ)) → Closed m words (past_after count i deeds)
  closed_past count i deeds = record { holds = holds }
    where
      commits : List (Commit ℕ)
      commits = commits_in m words count

      holds : (place j : ℕ) → past_after count i deeds place ≡ true → past_of_version m words place j ≡ true → past_after count i deeds j ≡ true
      holds place j there past = by (leb place count)
          (λ e. let among : up_to commits place j ≡ true = ap (λ f. f j) (up_to_first m words count place (leb-true place count e)) ∙ past in
          (past_is commits i deeds j).1 (through ((past_is commits i deeds place).0 there) ((up_to_is commits place j).0 among)))
          (λ e. both_ways there (past_none commits i deeds place (rw (commits_count m words count) (leb-false place count e))))

  -- ── A version's past ────────────────────────────────────────────────

  -- It has the commit that wrote the version, and that one's past.
  pub version_past : (place j : ℕ) → 1 ≤ place → let e = entry_in words (commit_row place) in
      past_of_version m words place j ≡ only place j || past_of_transaction m words (place - 1) e.head e j
  version_past zero j h = absurd (omega arith)
  version_past (suc k) j h = ap (λ f. f j) (up_to_newest m words k) ∙ rw (commits_count m words k, sub-one)

  -- ── A transaction's past ────────────────────────────────────────────

  -- Of a transaction that has done nothing it is that of its handler's last commit.
  pub own_past : (count i : ℕ) → past_of_version m words (last_of (commits_in m words count) i) ≡ past_after count i []
  own_past count i = sym (up_to_first m words count _ (last_stood m words count i refl)) ∙ sym (past_last (commits_in m words count) i)

  module _ (count i : ℕ) where
    -- A write that is noted adds nothing.
    set_adds : (written : Bool) (c v : ℕ) (deeds : List (Deed ℕ)) → past_after count i (set_of written c v deeds) ≡ past_after count i deeds
    unfolding set_of
    set_adds true c v deeds = past_set (commits_in m words count) i deeds c v
    set_adds false c v deeds = refl

    -- A read that is noted adds the past of the version read.
    look_adds : (source c v : ℕ) (deeds : List (Deed ℕ)) (j : ℕ) → past_after count i (look_of source c v deeds) j
        ≡ up_to (commits_in m words count) (source_place source count) j || past_after count i deeds j
    unfolding look_of source_place
    look_adds zero c v deeds j = rw (up_to_opening m words count j)
    look_adds (suc source) c v deeds j =
        ap (λ f. f j) (past_look (commits_in m words count) i deeds c source (version_shows source v)) ∙ by (leb source count)
        (λ e. rw e)
        (λ e. rw (e, up_to_opening m words count j, up_to_outside m words count source j (leb-false source count e)))

    -- One cell more adds the past of the version that was read of it.
    pub cell_adds : (e : Entry) (c j : ℕ) → past_after count i (deeds_of e (suc c)) j
        ≡ past_of_version m words (source_place (e.sources c) count) j || past_after count i (deeds_of e c) j
    unfolding deeds_of
    cell_adds e c j =
        ap (λ f. f j) (set_adds (e.written c) c (e.copies c) _)
        ∙ look_adds (e.sources c) c (e.copies c) (deeds_of e c) j
        ∙ rw (up_to_first m words count (source_place (e.sources c) count) (source_stood (e.sources c) count refl))
