-- What the answer to the question for a length means.
use Rattle.std.specs.Prelude.{ℕ, Option, None, Some}
use Rattle.std.proofs.Math.Option as Math

-- The words needed, if there is such a register, as the rules have it.
abbrev pub needed_is : Option ℕ → Math.Option ℕ
needed_is None = Math.none
needed_is (Some k) = Math.some k
