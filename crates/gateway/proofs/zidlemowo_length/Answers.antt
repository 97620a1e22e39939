-- `gateway::zidlemowo_length` meets its promise: the register's answer as a number.
use Prim.Native.Nat.{ℕ, ◌≤◌}
use mathlib.Core.Path.{◌≡◌, refl, sym, ap, ◌∙◌}
use mathlib.Core.Option.{some, some-injective, some-ne-none}
use native.Mathlib.Omega.{arith}
use Rattle.rules.specs.steps.Checks.{in_range}
use Rattle.rules.proofs.steps.Given.{range_tested}
use Rattle.rules.proofs.steps.Tables.{by}
use Rattle.layout.proofs.Places.{body_small}
use Rattle.promises.specs.Lengths.{length_for}
use Rattle.register.specs.Meaning.{needed_is}
use Rattle.gateway.specs.Packed.{length_number}
use Rattle.gateway.proofs.zidlemowo_length.Goals as goal

-- No register has more than 2,642 words.
at_most : (m n k : ℕ) → some k ≡ length_for m n → k ≤ 2642
unfolding length_for
at_most m n k e = by (in_range m n)
    (λ ranged. let range = (range_tested m n).0 ranged in
    omega (arith, some-injective _ _ (rw ranged at e), body_small m n range.cells range.handlers))
    (λ out. absurd (some-ne-none k (rw out at e)))

-- The length that the register answered.
pub overflow_cast-result : goal.overflow_cast-result
overflow_cast-result c = omega (arith, at_most _ _ _ (ap needed_is (sym c.in-Some.is) ∙ c.words_needed.ensures.replied))
