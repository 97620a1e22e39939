-- A set of cells as one word: bit c for cell c.
use Rattle.std.specs.Prelude.{ℕ, zero, suc, ◌+◌, ◌*◌, ◌/◌, ◌%◌, ◌^◌, Bool, true, false, eqb, if◌then◌else◌}

-- A yes or no as a word.
abbrev pub bit : Bool → ℕ
bit true = 1
bit false = 0

-- Cell c is in the set that the word is.
unfoldable pub has_bit : ℕ → ℕ → Bool
has_bit word c = eqb ((word / 2 ^ c) % 2) 1

-- The word of a set, of which the cells below m count.
unfoldable pub mask : ℕ → (ℕ → Bool) → ℕ
mask zero set = 0
mask (suc m) set = bit (set 0) + 2 * mask m (λ c. set (suc c))

-- The word of the set with cell x besides.
unfoldable pub with_bit : ℕ → ℕ → ℕ
with_bit word x = if has_bit word x then word else (word + 2 ^ x)
