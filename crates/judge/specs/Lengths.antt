-- What the question for the words that the judge needs promises.
use Rattle.std.specs.Prelude.{ℕ}
use Rattle.rules.specs.Promise.{Due, Promise, answering}
use Rattle.ledger.specs.Entries.{ledger_long}

-- The question is given nothing, and comes to the words of a ledger, whatever m and n are.
abbrev pub asks_needed : Unit {0} → Due ℕ Unit
asks_needed = answering (λ asked. ledger_long)

-- The promise of the judge's length.
abbrev pub NeededPromise : ℕ → Type 0
NeededPromise reply = Promise asks_needed tt reply tt
