-- `words::has` meets its contract: a bit is read as it is defined.
use mathlib.Core.Path.{refl}
use Rattle.layout.specs.Bits.{has_bit}
use Rattle.words.proofs.has.Goals as goal

pub returns : goal.returns
unfolding has_bit
returns c = refl
