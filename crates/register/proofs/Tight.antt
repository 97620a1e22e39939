-- Any two answers that the promise of a length allows are equal. Those of opening and of a step are (replies' proofs/Apart.antt).
use Rattle.std.proofs.Common.{ℕ, ◌≡◌, refl, Option, None, Some}
use Rattle.std.proofs.Math.Option as Math
use Rattle.rules.proofs.Determined.{Determined, determined}
use Rattle.rules.proofs.steps.Numbers.{Injective, read_back}
use Rattle.register.specs.Meaning.{needed_is}

needed_back : Math.Option ℕ → Option ℕ
needed_back (Math.some k) = Some k
needed_back Math.none = None

needed_same : (needed : Option ℕ) → needed_back (needed_is needed) ≡ needed
unfolding needed_back
needed_same (Some k) = refl
needed_same None = refl

-- Different answers to the question for a length differ in the rules.
pub lengths_apart : Injective needed_is
lengths_apart = read_back needed_is needed_back needed_same

-- The question for a length has one answer.
pub needed_determined : Determined needed_is
needed_determined = determined lengths_apart
