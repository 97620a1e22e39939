-- The column of a number: what stands in front of it, by how many digits it has, and how wide both are.
use Prim.Native.Nat.{ℕ, ◌+◌, ◌≤◌, ◌<◌}
use mathlib.Core.Path.{◌≡◌}
use native.Mathlib.Omega.{arith}
use lib.ListN.{length}
use lib.Dec.{ltb}
use borrow.Author.Tests.{ltb-true, ltb-false, lt-ltb, le-ltb}
use Rattle.rules.proofs.steps.Tables.{by}
use Rattle.text.specs.Bytes.{ascii, decimal}
use Rattle.text.proofs.Decimals.{decimal_short}
use Rattle.rules.specs.steps.Codes.{plain_sheet}
use Rattle.checks.specs.Entries.{cell_named}
use Rattle.checks.proofs.Tables.{plain_fits}
use Rattle.manual.specs.Page.{margin_text}

-- One digit,
one_digit : (n : ℕ) → n < 10 → margin_text n ≡ ascii "|    "
unfolding margin_text
one_digit n below = rw (lt-ltb n 10 below)

-- two,
two_digits : (n : ℕ) → 10 ≤ n → n < 100 → margin_text n ≡ ascii "|   "
unfolding margin_text
two_digits n above below = rw (le-ltb n 10 above, lt-ltb n 100 below)

-- and more.
more_digits : (n : ℕ) → 100 ≤ n → margin_text n ≡ ascii "|  "
unfolding margin_text
more_digits n above = rw (le-ltb n 10 (omega (arith, above)), le-ltb n 100 above)

-- A number of at most three digits ends six bytes from the bar's place.
pub column_short : (n : ℕ) → n < 1000 → length (margin_text n) + length (decimal n) ≤ 6
column_short n below =
    by (ltb n 10)
    (λ one. let small = ltb-true n 10 one in rw (one_digit n small) (omega (arith, decimal_short 0 n small)))
    (λ more. by (ltb n 100)
    (λ two. let small = ltb-true n 100 two in rw (two_digits n (ltb-false n 10 more) small) (omega (arith, decimal_short 1 n small)))
    (λ three. rw (more_digits n (ltb-false n 100 three)) (omega (arith, decimal_short 2 n below))))

-- The cell that a code names has at most two digits.
pub cell_small : (code : ℕ) → cell_named (plain_sheet code) < 32
cell_small code = plain_fits.narrow code
