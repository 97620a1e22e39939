-- Laws of bits over which words are laid, turn by turn, and what they are of numbers and of sets.
use Rattle.std.proofs.Common.{ℕ, ◌+◌, ◌*◌, ◌/◌, ◌^◌, ◌≤◌, ◌<◌, ◌≡◌, ◌↔◌, bit_or, subst, arith, below_more, pow_pos, div-lt_iff_lt-mul}
use Rattle.std.proofs.lemmas.Nat.{le_or_l, le_or_r, or_lt}
use Rattle.layout.specs.WellFormed.{NoBitFrom}
use Rattle.layout.proofs.Bits.{no_bit_from}

-- ── Turn by turn ──────────────────────────────────────────────────────

-- Each place below i is good.
abbrev pub EachBelow : ℕ → (ℕ → Type 0) → Type 0
EachBelow i Good = (y : ℕ) → y < i → Good y

module _ (bits₀ : ℕ) (Good : ℕ → Type 0) where
  -- Bits are a number exactly where those from before are and the places below i are good.
  abbrev pub Told : ℕ → ℕ → Type 0
  Told i bits = (bits ≤ 65535) ↔ ((bits₀ ≤ 65535) × EachBelow i Good)

  -- Where nothing was looked at that could be bad, the bits are those from before.
  pub told_none : {i : ℕ} → EachBelow i Good → Told i bits₀
  told_none good = (λ h. (h, good), λ h. h.0)

  -- One more place is looked at, and what it says is laid over the bits.
  pub told_more : {i bits over : ℕ} {Says : Type 0} → Told i bits → (over ≤ 65535) ↔ ((bits ≤ 65535) × Says) → Says ↔ Good i → Told (i + 1) over
  told_more {i} {over = over} told laid says = (to, from)
    where
      to : over ≤ 65535 → (bits₀ ≤ 65535) × EachBelow (i + 1) Good
      to h = let (before, here) = laid.0 h in let (first, good) = told.0 before in (first, below_more Good i good (says.0 here))

      from : (bits₀ ≤ 65535) × EachBelow (i + 1) Good → over ≤ 65535
      from (first, good) = laid.1 (told.1 (first, λ y h. good y (omega arith)), says.1 (good i (omega arith)))

  -- All places are looked at.
  pub told_all : {i n bits : ℕ} → Told i bits → i ≤ n → n ≤ i → Told n bits
  told_all {i} {n} {bits} told reached within = subst (λ k. Told k bits) (let same : i ≡ n = omega arith in same) told

-- Bits that tell of something besides a number from before tell of that alone.
pub told_besides : {bits₀ bits : ℕ} {Good : Type 0} → bits₀ ≤ 65535 → (bits ≤ 65535) ↔ ((bits₀ ≤ 65535) × Good) → (bits ≤ 65535) ↔ Good
told_besides fits told = (λ h. (told.0 h).1, λ h. told.1 (fits, h))

-- ── Of words ──────────────────────────────────────────────────────────

-- Two words laid over each other have no bit from bit k on just when neither has.
pub over_below : (k a b : ℕ) → (bit_or a b < 2 ^ k) ↔ ((a < 2 ^ k) × (b < 2 ^ k))
over_below k a b = (λ h. (omega (arith, le_or_l a b), omega (arith, le_or_r a b)), λ h. or_lt k a b h.0 h.1)

-- Two words laid over bits are a number just when all three are.
pub over_numbers : (bits a b : ℕ) → (bit_or (bit_or bits a) b ≤ 65535) ↔ ((bits ≤ 65535) × ((a ≤ 65535) × (b ≤ 65535)))
over_numbers bits a b = (to, from)
  where
    to : bit_or (bit_or bits a) b ≤ 65535 → (bits ≤ 65535) × ((a ≤ 65535) × (b ≤ 65535))
    to h =
        let (before, second) = (over_below 16 (bit_or bits a) b).0 (omega arith) in
        let (old, first) = (over_below 16 bits a).0 before in (omega arith, (omega arith, omega arith))

    from : (bits ≤ 65535) × ((a ≤ 65535) × (b ≤ 65535)) → bit_or (bit_or bits a) b ≤ 65535
    from h = let over = or_lt 16 (bit_or bits a) b (or_lt 16 bits a (omega arith) (omega arith)) (omega arith) in omega arith

-- Two sets laid over each other have nothing from bit m on just when neither has.
pub over_sets : (m a b : ℕ) → (bit_or a b / 2 ^ m ≡ 0) ↔ (NoBitFrom m a × NoBitFrom m b)
over_sets m a b = (to, from)
  where
    below : (bit_or a b / 2 ^ m < 1) ↔ (bit_or a b < 1 * 2 ^ m)
    below = div-lt_iff_lt-mul (pow_pos m)

    to : bit_or a b / 2 ^ m ≡ 0 → NoBitFrom m a × NoBitFrom m b
    to e = let (first, second) = (over_below m a b).0 (omega (arith, below.0 (omega arith))) in ((no_bit_from m a).1 first, (no_bit_from m b).1 second)

    from : NoBitFrom m a × NoBitFrom m b → bit_or a b / 2 ^ m ≡ 0
    from (first, second) = omega (arith, below.1 (omega (arith, (over_below m a b).1 ((no_bit_from m a).0 first, (no_bit_from m b).0 second))))
