-- `turns::has_open` meets its contract: the handler's phase, and idle where there is no such handler.
use Rattle.std.proofs.Common.{arith, ◌∙◌}
use borrow.Author.Tests.{le-ltb}
use Rattle.turns.proofs.Refusing.{beyond_idle}
use Rattle.turns.proofs.has_open.Goals as goal

pub returns-else-i-n : goal.returns-else-i-n
returns-else-i-n c = le-ltb _ _ (omega arith) ∙ beyond_idle c.args.m c.args.n c.args.body.now c.args.handler (omega arith)

pub is_open-requires : goal.is_open-requires
is_open-requires c = record { formed = c.requires.0; handler = omega arith; low = omega arith }
