-- `text::Page::put_number` meets its contract: a tenth of the number is put first, and its last digit behind it.
use Rattle.std.proofs.Common.{◌/◌, arith}
use Rattle.text.proofs.Decimals.{decimal_digit, decimal_tens, decimal_short}
use Rattle.text.proofs.Pages.{writes_both}
use Rattle.text.proofs.Page.+put_number.Goals as goal

-- A digit.
pub returns-then-n-lt10-clause-puts : goal.returns-then-n-lt10-clause-puts
returns-then-n-lt10-clause-puts t c = rw (decimal_digit c.args.n c.if-n-lt10.true) c.put_byte.ensures

-- The tens, and the last digit.
pub returns-clause-puts : goal.returns-clause-puts
returns-clause-puts t c = rw (decimal_tens c.args.n c.if-n-lt10.false) (writes_both c.put_number.ensures.puts c.put_byte-2.ensures)

pub returns-clause-upper_bound : goal.returns-clause-upper_bound
returns-clause-upper_bound t c =
    omega (arith, c.put_number.ensures.puts.puts.ends, c.put_byte-2.ensures.puts.ends, decimal_short 8 (c.args.n / 10) (omega arith))
