-- Numbers in decimal: digit by digit, and how long they are.
use Prim.Native.Nat.{ℕ, zero, suc, ◌*◌, ◌/◌, ◌%◌, ◌≤◌, ◌<◌}
use mathlib.Core.Path.{◌≡◌, refl, ap}
use mathlib.Core.List.{◌++◌}
use native.Mathlib.Omega.{arith}
use lib.ListN.{length, length-append}
use lib.Dec.{ltb}
use borrow.Author.Tests.{lt-ltb, le-ltb}
use Rattle.rules.proofs.steps.Tables.{by}
use Rattle.text.specs.Bytes.{digit, spelled, decimal}

-- More turns than a number counts spell it alike.
turns_enough : (turns more n : ℕ) → n ≤ turns → n ≤ more → spelled turns n ≡ spelled more n
unfolding spelled
turns_enough zero zero n le ge = refl
turns_enough zero (suc more) n le ge = rw (lt-ltb n 10 (omega (arith, le)))
turns_enough (suc turns) zero n le ge = rw (lt-ltb n 10 (omega (arith, ge)))
turns_enough (suc turns) (suc more) n le ge = by (ltb n 10) (λ small. rw small) (λ large.
    rw large (ap (◌++ digit (n % 10)) (turns_enough turns more (n / 10) (omega arith) (omega arith))))

-- A number below ten is its digit,
pub decimal_digit : (n : ℕ) → n < 10 → decimal n ≡ digit n
unfolding spelled
decimal_digit zero small = refl
decimal_digit (suc k) small = rw (lt-ltb (suc k) 10 small)

-- another has its last digit behind those of a tenth of it.
pub decimal_tens : (n : ℕ) → 10 ≤ n → decimal n ≡ decimal (n / 10) ++ digit (n % 10)
unfolding spelled
decimal_tens zero large = absurd (omega (arith, large))
decimal_tens (suc k) large =
    rw (le-ltb (suc k) 10 large) (ap (◌++ digit (suc k % 10)) (turns_enough k (suc k / 10) (suc k / 10) (omega arith) (omega arith)))

-- What numbers of so many digits, and one, stay below.
abbrev pub tens : ℕ → ℕ
tens zero = 10
tens (suc k) = 10 * tens k

spelled_short : (turns k n : ℕ) → n < tens k → length (spelled turns n) ≤ suc k
unfolding spelled
spelled_short zero k n below = omega arith
spelled_short (suc turns) zero n below = rw (lt-ltb n 10 below) (omega arith)
spelled_short (suc turns) (suc k) n below = by (ltb n 10) (λ small. rw small (omega arith)) (λ large.
    let front = spelled_short turns k (n / 10) (omega (arith, below)) in
    rw large (omega (arith, front, length-append (spelled turns (n / 10)) (digit (n % 10)))))

-- A number has no more digits than that.
pub decimal_short : (k n : ℕ) → n < tens k → length (decimal n) ≤ suc k
decimal_short k n below = spelled_short n k n below

-- So a byte has at most three digits,
pub byte_short : (n : ℕ) → n < 256 → length (decimal n) ≤ 3
byte_short n small = decimal_short 2 n (omega (arith, small))

-- and a word of two bytes at most five.
pub word_short : (n : ℕ) → n < 65536 → length (decimal n) ≤ 5
word_short n small = decimal_short 4 n (omega (arith, small))

-- How wide such numbers are, and texts behind one another.
pub ruleset widths = (byte_short, word_short, length-append)
