-- The texts of cells, one after another.
use Prim.Native.Nat.{ℕ, zero, suc, ◌<◌}
use mathlib.Core.Path.{◌≡◌, refl, ap, ◌∙◌}
use mathlib.Core.List.{List, ◌++◌}
use native.Mathlib.Omega.{arith}
use Rattle.text.specs.Bytes.{in_turn}

-- Cells that are shown alike have the same text.
pub cells_alike : (m : ℕ) (one other : ℕ → List ℕ) → ((c : ℕ) → c < m → one c ≡ other c) → in_turn m one ≡ in_turn m other
unfolding in_turn
cells_alike zero one other same = refl
cells_alike (suc m) one other same =
    ap (◌++ one m) (cells_alike m one other (λ c within. same c (omega (arith, within)))) ∙ ap (in_turn m other ++◌) (same m (omega arith))
