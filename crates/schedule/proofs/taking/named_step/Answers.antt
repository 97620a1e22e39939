-- `schedule::taking::named_step` meets its contract: 11, what stands in front of the handler's script refuses, or it is taken.
use Rattle.std.proofs.Common.{refl, arith}
use Rattle.schedule.proofs.Nexts.{named_beyond, named_refused, named_taken}
use Rattle.schedule.proofs.taking.named_step.Goals as goal

pub returns-then-sound-handler : goal.returns-then-sound-handler
returns-then-sound-handler c = named_beyond _ _ _ (omega (arith, c.args.sound.now.handlers))

pub returns-in-Err : goal.returns-in-Err
returns-in-Err c = named_refused _ _ _ (omega (arith, c.args.sound.now.handlers)) (rw c.script.ensures at c.in-Err.ensures)

pub returns-in-Ok : goal.returns-in-Ok
returns-in-Ok c = named_taken _ _ _ (omega (arith, c.args.sound.now.handlers)) (rw c.script.ensures at c.in-Ok.ensures) refl
