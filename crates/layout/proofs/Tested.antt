-- The test of well-formedness answers exactly the proposition: each test in it is turned into what it asks, the bounds of the
-- sets into bits.
use Prim.Native.Nat.{ℕ, ◌≤◌, ◌<◌}
use mathlib.Core.Path.{◌≡◌}
use mathlib.Core.Bool.{Bool, true, false, not}
use mathlib.Core.List.{List}
use mathlib.Core.Logic.Iff
use mathlib.Core.Logic.{◌↔◌}
use native.Mathlib.Omega.{arith}
use lib.ListN.{length, get_or-eq_default}
use borrow.Author.Tests.{not-true, not-false}
use Rattle.rules.proofs.steps.Given.{range_tested}
use Rattle.rules.proofs.steps.Tables.{and_iff, leb_iff, by, some_false, some_none}
use Rattle.layout.specs.WellFormed.{GoodBlock, WellFormed, every_below, numbers_fit, is_good_block, GoodBody, PhasesTo, is_good_body, is_well_formed}
use Rattle.layout.proofs.Bits.{no_bit_from}

-- Every place below m passes just when each does.
pub every_iff : (m : ℕ) (test : ℕ → Bool) → (every_below m test ≡ true) ↔ ((y : ℕ) → y < m → test y ≡ true)
unfolding every_below
every_iff m test = (to, from)
  where
    fails : ℕ → Bool
    fails y = not (test y)

    to : every_below m test ≡ true → (y : ℕ) → y < m → test y ≡ true
    to e y h = not-false (test y) (some_false m fails (not-true _ e) y h)

    from : ((y : ℕ) → y < m → test y ≡ true) → every_below m test ≡ true
    from each = rw (some_none m fails (λ y h. rw (each y h)))

-- The numbers fit just when each of the first m is at most 65,535.
pub fit_iff : (m : ℕ) (numbers : ℕ → ℕ) → (numbers_fit m numbers ≡ true) ↔ ((y : ℕ) → y < m → numbers y ≤ 65535)
unfolding numbers_fit
fit_iff m numbers = simp (every_iff, leb_iff) Iff.rfl

-- The test of a block answers whether it is good.
pub good_iff : (m : ℕ) (block : List ℕ) → (is_good_block m block ≡ true) ↔ GoodBlock m block
unfolding is_good_block
good_iff m block = (to, from)
  where
    to : is_good_block m block ≡ true → GoodBlock m block
    to e =
        let (read_set, (written_set, (numbers, transaction))) = simp (and_iff, leb_iff, fit_iff, ← no_bit_from) at e in
        record { read_set = read_set; written_set = written_set; numbers = numbers; transaction = transaction }

    from : GoodBlock m block → is_good_block m block ≡ true
    from good =
        simp (and_iff, leb_iff, fit_iff, ← no_bit_from) (good.read_set, (good.written_set, (good.numbers, good.transaction)))

-- The test of a body answers whether it is good, with no phase beyond.
pub body_iff : (last m n : ℕ) (body : List ℕ) → (is_good_body last m n body ≡ true) ↔ (GoodBody m n body × PhasesTo last m n body)
unfolding is_good_body
body_iff last m n body = (to, from)
  where
    to : is_good_body last m n body ≡ true → GoodBody m n body × PhasesTo last m n body
    to e =
        let (long, (numbers, blocks)) = simp (and_iff, leb_iff, every_iff, fit_iff, good_iff) at e in
        (record { long = long; numbers = numbers; blocks = λ i h. (blocks i h).0 }, λ i h. (blocks i h).1)

    from : GoodBody m n body × PhasesTo last m n body → is_good_body last m n body ≡ true
    from (good, below) =
        simp (and_iff, leb_iff, every_iff, fit_iff, good_iff)
        (good.long, (good.numbers, λ i h. (good.blocks i h, below i h)))

-- The test of well-formedness answers the proposition.
pub tested : (words : List ℕ) → (is_well_formed words ≡ true) ↔ WellFormed words
unfolding is_well_formed
tested words = (to, from)
  where
    to : is_well_formed words ≡ true → WellFormed words
    to e =
        let (range, (body, phases)) = simp (and_iff, range_tested, body_iff) at e in
        record { range = range; body = body; phases = phases }

    from : WellFormed words → is_well_formed words ≡ true
    from w = simp (and_iff, range_tested, body_iff) (w.range, (w.body, w.phases))

-- Words too short for m and n are not well formed.
pub short_not : (words : List ℕ) → length words < 2 → is_well_formed words ≡ false
short_not words h = by (is_well_formed words)
    (λ e. absurd (omega (arith, ((tested words).0 e).range.some_handler, get_or-eq_default words 0 {n = 1} (omega arith))))
    (λ e. e)
