-- The cells of a set that a loop has taken: those of the set that are not left. None is taken at first, each turn takes one more, and
-- when none is left they are the set.
use Rattle.std.specs.Prelude.{if◌then◌else◌}
use Prim.Native.Nat.{ℕ, ◌<◌}
use mathlib.Core.Path.{◌≡◌, refl, sym, ◌∙◌, fun_ext}
use mathlib.Core.Bool.{Bool, true, false, not, ◌&&◌}
use mathlib.Core.List.{List}
use native.Mathlib.Omega.{arith}
use lib.Dec.{eqb, ltb}
use borrow.Author.Tests.{ltb-true, ltb-false, eqb-true}
use Rattle.rules.specs.steps.Tables.{put}
use Rattle.rules.proofs.steps.Tables.{by, both_ways, and_left}
use Rattle.layout.specs.Bits.{has_bit}
use Rattle.layout.proofs.Bits.{no_bit_from}
use Rattle.words.specs.Sets.{Lowest, Without}
use Rattle.stores.specs.Stores.{Behind}

-- The cells of the set that are not left.
abbrev pub taken : ℕ → ℕ → ℕ → Bool
taken set left y = has_bit set y && not (has_bit left y)

-- Every cell that is left is in the set.
pub record LeftOf (set left : ℕ) : Type 0 where
  pub inside : (y : ℕ) → has_bit left y ≡ true → has_bit set y ≡ true

-- A test and its contrary do not hold together.
neither : (b : Bool) → b && not b ≡ false
neither true = refl
neither false = refl

-- A test together with the contrary of one that fails is that test.
alone : (a b : Bool) → b ≡ false → a && not b ≡ a
alone true b e = rw e
alone false b e = refl

-- With one more cell no longer left, those taken are it besides.
one_more : (inside left here : Bool) → (here ≡ true → inside ≡ true)
    → inside && not (left && not here) ≡ (if here then true else (inside && not left))
one_more true true true h = refl
one_more true false true h = refl
one_more false left true h = h refl
one_more inside true false h = refl
one_more inside false false h = refl

-- No cell is taken yet.
pub taken_none : (set : ℕ) → taken set set ≡ (λ y. false)
taken_none set = fun_ext (λ y. neither (has_bit set y))

-- No cell is in the word 0.
pub no_cell : (y : ℕ) → has_bit 0 y ≡ false
no_cell y = (no_bit_from 0 0).1 (omega arith) y (omega arith)

-- When none is left, those taken are the set.
pub taken_all : (set left : ℕ) → left ≡ 0 → taken set left ≡ has_bit set
taken_all set left none = fun_ext (λ y. alone (has_bit set y) (has_bit left y) (rw none (no_cell y)))

-- At first all cells are left.
pub left_all : (set : ℕ) → LeftOf set set
left_all set = record { inside = λ y e. e }

module _ {set left c : ℕ} (leaves : LeftOf set left) (lowest : Lowest left c) where
  -- The lowest cell that is left is in the set,
  pub cell_in : has_bit set c ≡ true
  cell_in = leaves.inside c lowest.inside

  -- and one of the m cells.
  pub cell_low : {m row : ℕ} {body : List ℕ} → Behind m set row body → c < m
  cell_low {m} behind = by (ltb c m) (ltb-true c m) (λ e. both_ways cell_in (behind.below c (ltb-false c m e)))

  module _ {after : ℕ} (without : Without left c after) where
    -- What a turn leaves is in the set.
    pub left_less : LeftOf set after
    left_less = record { inside = λ y e. leaves.inside y (and_left (has_bit left y) (not (eqb y c)) (sym (without.others y) ∙ e)) }

    -- A turn takes the lowest cell besides.
    pub taken_more : taken set after ≡ put (taken set left) c true
    unfolding put
    taken_more = fun_ext (λ y. rw (without.others y)
        (one_more (has_bit set y) (has_bit left y) (eqb y c) (λ e. rw (eqb-true y c e) cell_in)))
