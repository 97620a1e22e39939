-- The test of a ledger answers exactly the proposition.
use Prim.Native.Nat.{◌≤◌}
use mathlib.Core.Path.{◌≡◌}
use mathlib.Core.Bool.{true}
use mathlib.Core.List.{List}
use mathlib.Core.Logic.{◌↔◌}
use Prim.Native.Nat.{ℕ}
use lib.ListN.{length}
use Rattle.rules.specs.steps.Given.{InRange}
use Rattle.rules.proofs.steps.Tables.{and_iff, leb_iff}
use Rattle.rules.proofs.steps.Given.{range_tested}
use Rattle.layout.specs.Places.{cells_of, handlers_of}
use Rattle.ledger.specs.Entries.{ledger_long, most_commits, commits_noted, Ledger, is_ledger}

-- The words pass the test if and only if they are a ledger.
pub tested : (words : List ℕ) → (is_ledger words ≡ true) ↔ Ledger words
unfolding is_ledger
tested words = simp (and_iff, leb_iff, range_tested) (to, from)
  where
    Each : Type 0
    Each = (ledger_long ≤ length words) × (InRange (cells_of words) (handlers_of words) × (commits_noted words ≤ most_commits))

    to : Each → Ledger words
    to e = record { long = e.0; range = e.1.0; few = e.1.1 }

    from : Ledger words → Each
    from l = (l.long, (l.range, l.few))
