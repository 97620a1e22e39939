-- `words::lowest` meets its contract: the zeros that a word ends with are counted up to its lowest cell.
use native.Mathlib.Omega.{arith}
use lib.Count.{trailing_le}
use Rattle.layout.proofs.Bits.{trailing_lowest}
use Rattle.words.proofs.lowest.Goals as goal

-- The cell lies below 32.
pub overflow_cast-result : goal.overflow_cast-result
overflow_cast-result c = record { fits = omega (arith, trailing_le 32 c.args.set) }

pub returns : goal.returns
returns c =
    let found = trailing_lowest 32 c.args.set c.requires c.ranges.set.fits in
    record { low = found.0; inside = found.1; first = found.2 }
