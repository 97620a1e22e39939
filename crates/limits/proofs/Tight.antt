-- Any two answers that the promise of the range allows are equal.
use Prim.Native.Nat.{ℕ}
use mathlib.Core.Path.{◌≡◌}
use mathlib.Core.Bool.{Bool}
use Rattle.rules.proofs.Determined.{one_outcome}
use Rattle.limits.specs.Ranges.{RangePromise}

-- The question for the range has one answer.
pub range_determined : {m n : ℕ} {a b : Bool} → RangePromise m n a → RangePromise m n b → a ≡ b
range_determined p q = (one_outcome p q).0
