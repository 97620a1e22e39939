-- For internal contracts alone: what our own functions are called with and leave. Nothing here need be believed.
-- What a search found, the lowest cell of a set, and a set without one of its cells, by which a loop takes the cells of a set one after another.
use Rattle.std.specs.Prelude.{ℕ, ◌<◌, ◌≡◌, true, false, not, ◌&&◌, eqb}
use Rattle.std.specs.Prelude.{Option, None, Some, MatchOption}
use Rattle.std.proofs.Math.Option as Math
use Rattle.layout.specs.Bits.{has_bit}
use Rattle.words.specs.declared.Cells.{Cells}

-- The cell that was found, if one was, as the rules have it.
abbrev pub found_is : Option ℕ → Math.Option ℕ
found_is None = Math.none
found_is (Some y) = Math.some y

-- Cell c is in the set, and none below it is.
pub record Lowest (set c : ℕ) : Type 0 where
  pub low : c < 32
  pub inside : has_bit set c ≡ true
  pub first : (y : ℕ) → y < c → has_bit set y ≡ false

-- The set without cell c, a smaller word.
pub record Without (set c after : ℕ) : Type 0 where
  pub less : after < set
  pub others : (y : ℕ) → has_bit after y ≡ has_bit set y && not (eqb y c)

-- The lowest cell of those that are left is taken, and they are left without it; or none was left, and none is.
abbrev pub TakesLowest : Cells → Option ℕ → Cells → Type 0
TakesLowest before taken after = MatchOption taken ((before.left ≡ 0) × (after.left ≡ 0))
    (λ c. Lowest before.left c × Without before.left c after.left)
