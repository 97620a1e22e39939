-- A word is the set of its bits and a set is the word of its cells: the word of a set of m cells lies below 2 ^ m, each way there
-- and back is the identity, one cell more or less is one power of 2 more or less, and the zeros below a word's lowest bit lead to it.
use Prim.Native.Nat.{ℕ, zero, suc, ◌+◌, ◌-◌, ◌*◌, ◌/◌, ◌%◌, ◌^◌, ◌≤◌, ◌<◌}
use mathlib.Core.Path.{◌≡◌, refl, sym, ap, ◌∙◌, fun_ext}
use mathlib.Core.Bool.{Bool, true, false, not, ◌&&◌, and-false, and-true}
use mathlib.Core.Logic.{◌↔◌}
use native.Mathlib.Omega.{arith}
use native.Mathlib.Nat.{pow-succ', div-one, div-eq_of_lt, one-mul}
use native.Mathlib.Numerals.{one-add}
use lib.Dec.{eqb, eqb-suc-suc, eqb-zero-suc, eqb-suc-zero}
use lib.Pow.{shr-shr, pow_mono, shl_exact}
use lib.Count.{count_trailing_zeros}
use borrow.Author.Tests.{eq-eqb, ne_eqb, eqb-true, eqb-false}
use Rattle.rules.specs.steps.Tables.{put}
use Rattle.rules.specs.steps.Register.{no_cells}
use Rattle.rules.proofs.steps.Tables.{by, put_same, put_beyond}
use Rattle.layout.specs.Bits.{bit, has_bit, mask, with_bit}
use Rattle.layout.specs.WellFormed.{NoBitFrom}

-- ── One bit ───────────────────────────────────────────────────────────

-- The lowest bit is what is left of the word modulo 2.
pub has_zero : (word : ℕ) → has_bit word 0 ≡ eqb (word % 2) 1
unfolding has_bit
has_zero word = rw div-one

-- Each higher bit is one of half the word.
pub has_suc : (word c : ℕ) → has_bit word (suc c) ≡ has_bit (word / 2) c
unfolding has_bit
has_suc word c = ap (λ (n : ℕ). eqb (n % 2) 1) (ap (λ (k : ℕ). word / 2 ^ k) (sym (one-add c)) ∙ sym (shr-shr word 1 c))

-- The lowest bit is not there: the word is even.
even : (word : ℕ) → has_bit word 0 ≡ false → word % 2 ≡ 0
even word e = omega (arith, eqb-false (word % 2) 1 (sym (has_zero word) ∙ e))

-- A bit is at most 1.
pub bit_small : (b : Bool) → bit b ≤ 1
bit_small true = omega arith
bit_small false = omega arith

-- A bit says again what it was made of.
pub bit_again : (b : Bool) → eqb (bit b) 1 ≡ b
bit_again true = refl
bit_again false = refl

-- A word that is 0 or 1 is the bit of being 1.
pub bit_of_word : (word : ℕ) → word ≤ 1 → bit (eqb word 1) ≡ word
bit_of_word zero h = refl
bit_of_word (suc zero) h = refl
bit_of_word (suc (suc word)) h = absurd (omega arith)

-- ── There and back ────────────────────────────────────────────────────

-- The word of a set of m cells lies below 2 ^ m.
pub mask_small : (m : ℕ) (set : ℕ → Bool) → mask m set < 2 ^ m
unfolding mask
mask_small zero set = omega arith
mask_small (suc m) set = omega (arith, bit_small (set 0), mask_small m (λ c. set (suc c)), pow-succ' 2 m)

-- The word of a set has the bits of its cells.
pub has_mask : (m : ℕ) (set : ℕ → Bool) (c : ℕ) → c < m → has_bit (mask m set) c ≡ set c
unfolding mask
has_mask zero set c h = absurd (omega arith)
has_mask (suc m) set zero h = has_zero _ ∙ low (set 0)
  where
    half : ℕ
    half = mask m (λ c. set (suc c))

    low : (b : Bool) → eqb ((bit b + 2 * half) % 2) 1 ≡ b
    low true = eq-eqb ((1 + 2 * half) % 2) 1 (omega arith)
    low false = ne_eqb ((0 + 2 * half) % 2) 1 (omega arith)
has_mask (suc m) set (suc c) h =
    has_suc _ c ∙ ap (λ (word : ℕ). has_bit word c) high ∙ has_mask m (λ k. set (suc k)) c (omega arith)
  where
    high : mask (suc m) set / 2 ≡ mask m (λ k. set (suc k))
    high = omega (arith, bit_small (set 0))

-- Sets with the same cells below m have the same word.
pub mask_ext : (m : ℕ) (set other : ℕ → Bool) → ((c : ℕ) → c < m → set c ≡ other c) → mask m set ≡ mask m other
unfolding mask
mask_ext zero set other h = refl
mask_ext (suc m) set other h =
    rw (h 0 (omega arith), mask_ext m (λ c. set (suc c)) (λ c. other (suc c)) (λ c l. h (suc c) (omega arith)))

-- The word of the empty set is 0.
pub mask_none : (m : ℕ) → mask m no_cells ≡ 0
unfolding mask
mask_none zero = refl
mask_none (suc m) = rw (mask_none m)

-- A word below 2 ^ m is the word of its bits.
pub mask_has : (m word : ℕ) → word < 2 ^ m → mask m (has_bit word) ≡ word
unfolding mask
mask_has zero word h = omega arith
mask_has (suc m) word h =
    ap (λ (set : ℕ → Bool). bit (has_bit word 0) + 2 * mask m set) (fun_ext (has_suc word))
    ∙ ap (λ (half : ℕ). bit (has_bit word 0) + 2 * half) (mask_has m (word / 2) (omega (arith, pow-succ' 2 m)))
    ∙ whole (has_bit word 0) (sym (has_zero word))
  where
    whole : (b : Bool) → eqb (word % 2) 1 ≡ b → bit b + 2 * (word / 2) ≡ word
    whole true e = omega (arith, eqb-true (word % 2) 1 e)
    whole false e = omega (arith, eqb-false (word % 2) 1 e)

-- ── No bit from m on ──────────────────────────────────────────────────

-- A number lies below the power of 2 that it is the exponent of.
below_power : (word : ℕ) → word < 2 ^ word
below_power zero = omega arith
below_power (suc word) = omega (arith, below_power word, pow-succ' 2 word)

-- A word with no bit at m or above lies below 2 ^ m.
no_bit_small : (m word : ℕ) → NoBitFrom m word → word < 2 ^ m
no_bit_small zero word none = omega (arith, empty)
  where
    empty : word ≡ 0
    empty =
        sym (mask_has word word (below_power word))
        ∙ mask_ext word (has_bit word) no_cells (λ c _. none c (omega arith)) ∙ mask_none word
no_bit_small (suc m) word none = omega (arith, no_bit_small m (word / 2) half, pow-succ' 2 m)
  where
    half : NoBitFrom m (word / 2)
    half c l = sym (has_suc word c) ∙ none (suc c) (omega arith)

-- A word below 2 ^ m has no bit at m or above.
small_no_bit : (m word : ℕ) → word < 2 ^ m → NoBitFrom m word
unfolding has_bit
small_no_bit m word h c l =
    let nothing : word / 2 ^ c ≡ 0 = div-eq_of_lt (omega (arith, pow_mono l)) in
    rw nothing

-- No bit of the word is set at m or above just when it lies below 2 ^ m.
pub no_bit_from : (m word : ℕ) → NoBitFrom m word ↔ (word < 2 ^ m)
no_bit_from m word = (no_bit_small m word, small_no_bit m word)

-- ── One cell more ─────────────────────────────────────────────────────

-- What is not in the set joins it by a sum.
has_sum : (word x c : ℕ) → has_bit word x ≡ false → has_bit (word + 2 ^ x) c ≡ put (has_bit word) x true c
unfolding put
has_sum word zero zero e = has_zero (word + 1) ∙ eq-eqb ((word + 1) % 2) 1 (omega (arith, even word e))
has_sum word zero (suc c) e =
    has_suc (word + 1) c ∙ ap (λ (half : ℕ). has_bit half c) same ∙ sym (has_suc word c) ∙ rw eqb-suc-zero
  where
    same : (word + 1) / 2 ≡ word / 2
    same = omega (arith, even word e)
has_sum word (suc x) zero e =
    has_zero (word + 2 ^ suc x) ∙ ap (λ (low : ℕ). eqb low 1) same ∙ sym (has_zero word) ∙ rw eqb-zero-suc
  where
    same : (word + 2 ^ suc x) % 2 ≡ word % 2
    same = omega (arith, pow-succ' 2 x)
has_sum word (suc x) (suc c) e =
    has_suc (word + 2 ^ suc x) c ∙ ap (λ (half : ℕ). has_bit half c) halved
    ∙ has_sum (word / 2) x c (sym (has_suc word x) ∙ e) ∙ rw (eqb-suc-suc, has_suc)
  where
    halved : (word + 2 ^ suc x) / 2 ≡ word / 2 + 2 ^ x
    halved = omega (arith, pow-succ' 2 x)

-- The word with one cell more has the bits with that one more.
pub has_with : (word x c : ℕ) → has_bit (with_bit word x) c ≡ put (has_bit word) x true c
unfolding with_bit
has_with word x c = by (has_bit word x)
    (λ e. rw e (sym (ap (λ (set : ℕ → Bool). set c) (put_same (has_bit word) x true e))))
    (λ e. rw e (has_sum word x c e))

-- With a cell below m more, the word stays below 2 ^ m.
pub with_small : (m word x : ℕ) → word < 2 ^ m → x < m → with_bit word x < 2 ^ m
with_small m word x h l =
    no_bit_small m (with_bit word x) (λ c k. has_with word x c ∙ put_beyond true l (small_no_bit m word h) c k)

-- The word of the bits with cell x more is the word with that cell more.
pub mask_with : (m word x : ℕ) → word < 2 ^ m → x < m → mask m (put (has_bit word) x true) ≡ with_bit word x
mask_with m word x h l =
    sym (ap (mask m) (fun_ext (has_with word x))) ∙ mask_has m (with_bit word x) (with_small m word x h l)

-- A cell that is in the set changes nothing.
pub with_there : (word x : ℕ) → has_bit word x ≡ true → with_bit word x ≡ word
unfolding with_bit
with_there word x e = rw e

-- A cell that is not in the set adds its power of 2.
pub with_joined : (word x : ℕ) → has_bit word x ≡ false → with_bit word x ≡ word + 2 ^ x
unfolding with_bit
with_joined word x e = rw e

-- In a word of so many bits, 1 that is shifted to a cell's place is the cell's power of 2.
pub shifted_is : (wide x : ℕ) → x < wide → (1 * 2 ^ x) % 2 ^ wide ≡ 2 ^ x
shifted_is wide x h = shl_exact 1 x wide (omega arith) (omega arith) ∙ one-mul (2 ^ x)

-- In such a word, a cell that is not in the set joins it by its bit, shifted,
pub with_shifted : (wide word x : ℕ) → x < wide → has_bit word x ≡ false → word + (1 * 2 ^ x) % 2 ^ wide ≡ with_bit word x
with_shifted wide word x h absent =
    ap (λ bit. word + bit) (shifted_is wide x h) ∙ sym (with_joined word x absent)

-- and the sum fits such a word.
pub shifted_fits : (wide word x : ℕ) → x < wide → has_bit word x ≡ false → word < 2 ^ wide → word + (1 * 2 ^ x) % 2 ^ wide < 2 ^ wide
shifted_fits wide word x h absent small = omega (arith, with_shifted wide word x h absent, with_small wide word x small h)

-- ── One cell less ─────────────────────────────────────────────────────

-- The lowest bit is there: the word is odd.
odd : (word : ℕ) → has_bit word 0 ≡ true → word % 2 ≡ 1
odd word e = eqb-true (word % 2) 1 (sym (has_zero word) ∙ e)

-- A word is at least the power of 2 of each of its cells.
pub has_power : (word x : ℕ) → has_bit word x ≡ true → 2 ^ x ≤ word
has_power word zero e = omega (arith, odd word e)
has_power word (suc x) e = omega (arith, has_power (word / 2) x (sym (has_suc word x) ∙ e), pow-succ' 2 x)

-- What is in the set leaves it by a difference.
pub has_less : (word x c : ℕ) → has_bit word x ≡ true → has_bit (word - 2 ^ x) c ≡ has_bit word c && not (eqb c x)
has_less word zero zero e =
    has_zero (word - 1) ∙ ne_eqb ((word - 1) % 2) 1 (omega (arith, odd word e)) ∙ sym (and-false (has_bit word 0))
has_less word zero (suc c) e =
    has_suc (word - 1) c ∙ ap (λ (half : ℕ). has_bit half c) same ∙ sym (has_suc word c) ∙ rw (eqb-suc-zero, and-true)
  where
    same : (word - 1) / 2 ≡ word / 2
    same = omega (arith, odd word e)
has_less word (suc x) zero e =
    has_zero (word - 2 ^ suc x) ∙ ap (λ (low : ℕ). eqb low 1) same ∙ sym (has_zero word) ∙ rw (eqb-zero-suc, and-true)
  where
    same : (word - 2 ^ suc x) % 2 ≡ word % 2
    same = omega (arith, has_power word (suc x) e, pow-succ' 2 x)
has_less word (suc x) (suc c) e =
    has_suc (word - 2 ^ suc x) c ∙ ap (λ (half : ℕ). has_bit half c) halved
    ∙ has_less (word / 2) x c (sym (has_suc word x) ∙ e) ∙ rw (eqb-suc-suc, has_suc)
  where
    halved : (word - 2 ^ suc x) / 2 ≡ word / 2 - 2 ^ x
    halved = omega (arith, has_power word (suc x) e, pow-succ' 2 x)

-- ── The lowest cell ───────────────────────────────────────────────────

-- Cell c lies below k and is in the set, and none below it is.
abbrev LowestBelow : ℕ → ℕ → ℕ → Type 0
LowestBelow k word c = (c < k) × (has_bit word c ≡ true) × ((y : ℕ) → y < c → has_bit word y ≡ false)

-- The lowest cell of an even word is one above that of its half.
lowest_next : (k word c : ℕ) → has_bit word 0 ≡ false → LowestBelow k (word / 2) c → LowestBelow (suc k) word (suc c)
lowest_next k word c e half = (omega (arith, half.0), has_suc word c ∙ half.1, first)
  where
    first : (y : ℕ) → y < suc c → has_bit word y ≡ false
    first zero h = e
    first (suc y) h = has_suc word y ∙ half.2 y (omega arith)

-- So many zeros as a word of k bits ends with, so far up is its lowest cell.
pub trailing_lowest : (k word : ℕ) → 0 < word → word < 2 ^ k → LowestBelow k word (count_trailing_zeros k word)
unfolding count_trailing_zeros
trailing_lowest zero word some fits = absurd (omega arith)
trailing_lowest (suc k) word some fits = by (has_bit word 0)
    (λ e. rw (odd word e) (omega arith, e, λ y h. absurd (omega arith)))
    (λ e. rw (even word e)
    (lowest_next k word _ e (trailing_lowest k (word / 2) (omega (arith, even word e)) (omega (arith, pow-succ' 2 k)))))
