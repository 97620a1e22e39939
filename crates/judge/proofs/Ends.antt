-- What the judge shows of a cell, by its ways.
use Rattle.std.proofs.Common.{ℕ, ◌≤◌, ◌<◌, ◌≡◌, refl, ap₂, false, List, lt-ltb, le-ltb}
use mathlib.Core.Bool.{and-false}
use mathlib.Core.Option.{none, some}
use Rattle.rules.specs.steps.Replies.{Content}
use Rattle.rules.specs.history.History.{every_commit}
use Rattle.rules.specs.history.Replay.{replay}
use Rattle.rules.specs.demand.Judge.{version_count}
use Rattle.layout.specs.Places.{cells_of}
use Rattle.replies.specs.Ends.{CellLine}
use Rattle.ledger.specs.Entries.{commits_noted, Ledger, is_ledger}
use Rattle.ledger.specs.Histories.{commits_in, history_in}
use Rattle.ledger.proofs.Tested.{tested}
use Rattle.judge.specs.Ending.{judged_end, JudgedEndPromise}

-- Words that are no ledger show nothing,
pub no_end : (words : List ℕ) (c : ℕ) → is_ledger words ≡ false → JudgedEndPromise words c none
unfolding judged_end
no_end words c e = record { replied = rw e; left = refl }

-- nor does a cell beyond,
pub end_beyond : (words : List ℕ) (c : ℕ) → cells_of words ≤ c → JudgedEndPromise words c none
unfolding judged_end
end_beyond words c outside = record { replied = rw (le-ltb c (cells_of words) outside, and-false (is_ledger words)); left = refl }

-- and another shows what it holds and how many commits wrote it.
pub end_shown : {words : List ℕ} {c number : ℕ} {content : Content ℕ} → Ledger words → c < cells_of words
    → content ≡ replay (commits_in (cells_of words) words (commits_noted words)) every_commit c
    → number ≡ version_count (commits_in (cells_of words) words (commits_noted words)) c
    → JudgedEndPromise words c (some (record { content = content; number = number }))
unfolding judged_end history_in
end_shown {words} {c} ledger inside holds counted = record {
  replied = rw ((tested words).1 ledger, lt-ltb c (cells_of words) inside)
      (ap₂ (λ (shown : Content ℕ) (k : ℕ). some (let line : CellLine = record { content = shown; number = k } in line)) holds counted);
  left = refl;
}
