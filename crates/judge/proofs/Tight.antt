-- Any two answers that the promise of the judge's length allows are equal. Those of its other operations are (replies' proofs/Apart.antt).
use Rattle.std.proofs.Common.{ℕ, ◌≡◌}
use Rattle.rules.proofs.Determined.{one_outcome}
use Rattle.judge.specs.Lengths.{NeededPromise}

-- The question for the judge's length has one answer.
pub needed_determined : {a b : ℕ} → NeededPromise a → NeededPromise b → a ≡ b
needed_determined p q = (one_outcome p q).0
