-- The present version of a cell: its number, commit by commit, and what it shows.
use Rattle.std.proofs.Common.{◌≡◌, ℕ, ◌+◌, ◌-◌, ◌≤◌, ◌<◌, true, false, List, sym, ap, ◌∙◌, arith}
use Rattle.rules.specs.steps.Replies.{unset, value}
use Rattle.rules.specs.history.History.{writer, every_commit}
use Rattle.rules.specs.history.Replay.{replay}
use Rattle.rules.specs.demand.Judge.{version_count}
use Rattle.rules.proofs.steps.Steps.{shows_nothing, shows_value}
use Rattle.ledger.specs.Entries.{Entry, commit_row, entry_in}
use Rattle.ledger.specs.Histories.{commits_in}
use Rattle.ledger.proofs.Versions.{versions_none, versions_wrote, versions_kept, version_at, present_shows}

module _ (words : List ℕ) (x : ℕ) where
  -- So many of the commits below a place wrote the cell.
  pub record IsCounted (below number : ℕ) : Type 0 where
    pub told : (m count : ℕ) → x < m → count + 1 ≡ below → number ≡ version_count (commits_in m words count) x

  -- Below the first commit there is none,
  pub counted_none : IsCounted 1 0
  counted_none = record { told = λ m count inside same. let none : count ≡ 0 = omega arith in rw none (sym (versions_none m words x inside)) }

  module _ {place number : ℕ} {e : Entry} (low : 1 ≤ place) (at : e ≡ entry_in words (commit_row place)) (before : IsCounted place number) where
    -- The commit before the place, as its own number and one more.
    back : place - 1 + 1 ≡ place
    back = omega arith

    -- a commit that wrote the cell is one more,
    pub counted_more : e.written x ≡ true → IsCounted (place + 1) (number + 1)
    counted_more written = record {
      told = λ m count inside same.
          let here : place ≡ count = omega arith in
          let row : (entry_in words (commit_row (place - 1 + 1))).written x ≡ true = rw (back, ← at) written in
          rw (← here) (ap (λ n. n + 1) (before.told m (place - 1) inside back) ∙ sym (rw back at (versions_wrote m words x inside (place - 1) row)));
    }

    -- and another is none.
    pub counted_kept : e.written x ≡ false → IsCounted (place + 1) number
    counted_kept kept = record {
      told = λ m count inside same.
          let here : place ≡ count = omega arith in
          let row : (entry_in words (commit_row (place - 1 + 1))).written x ≡ false = rw (back, ← at) kept in
          rw (← here) (before.told m (place - 1) inside back ∙ sym (rw back at (versions_kept m words x inside (place - 1) row)));
    }

  module _ (m count place : ℕ) (inside : x < m) (told : place ≡ writer (commits_in m words count) x) where
    -- The opening's version shows nothing,
    pub present_nothing : place ≡ 0 → replay (commits_in m words count) every_commit x ≡ unset
    present_nothing none = present_shows m words x inside count ∙ shows_nothing _ _ (sym told ∙ none)

    -- and a commit's what it copied.
    pub present_copy : (place ≡ 0 → ⊥) → replay (commits_in m words count) every_commit x ≡ value ((entry_in words (commit_row place)).copies x)
    present_copy some = present_shows m words x inside count ∙ ap (version_at words x) (sym told) ∙ shows_value place _ some
