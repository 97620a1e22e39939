-- `words::without` meets its contract: a cell that is in the set leaves it by a difference.
use Prim.Native.Nat.{ℕ, ◌-◌, ◌^◌}
use mathlib.Core.Path.{◌≡◌}
use mathlib.Core.Bool.{true}
use native.Mathlib.Omega.{arith}
use lib.Pow.{pow_pos}
use Rattle.layout.specs.Bits.{has_bit}
use Rattle.layout.proofs.Bits.{shifted_is, has_power, has_less}
use Rattle.words.specs.Sets.{Without}
use Rattle.words.proofs.without.Goals as goal

-- The difference with the cell's power of 2 is the set without the cell.
less : (set x power : ℕ) → has_bit set x ≡ true → power ≡ 2 ^ x → Without set x (set - power)
less set x power e same = record { less = omega (arith, has_power set x e, pow_pos x); others = λ y. rw same (has_less set x y e) }

pub overflow_sub-result : goal.overflow_sub-result
overflow_sub-result c = omega (arith, shifted_is 32 c.args.c c.requires.0, has_power c.args.set c.args.c c.requires.1)

pub returns : goal.returns
returns c = less _ _ _ c.requires.1 (shifted_is 32 _ c.requires.0)
