-- What is answered of m and n: no where they are out of range.
use Prim.Native.Nat.{ℕ}
use mathlib.Core.Path.{◌≡◌, refl, sym}
use mathlib.Core.Bool.{Bool, true, false}
use Rattle.rules.specs.steps.Checks.{in_range}
use Rattle.rules.specs.steps.Given.{InRange}
use Rattle.rules.proofs.steps.Given.{range_tested}
use Rattle.rules.proofs.steps.Tables.{by}
use Rattle.limits.specs.Ranges.{RangePromise}

-- A test that cannot hold answers no.
pub answers_no : (test : Bool) → (test ≡ true → ⊥) → false ≡ test
answers_no test never = by test (λ e. absurd (never e)) sym

-- What is not in range is answered with no.
pub out_of_range : (m n : ℕ) → (InRange m n → ⊥) → RangePromise m n false
out_of_range m n out = record { replied = answers_no (in_range m n) (λ e. out ((range_tested m n).0 e)); left = refl }
