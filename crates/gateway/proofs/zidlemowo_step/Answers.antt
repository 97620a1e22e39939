-- `gateway::zidlemowo_step` meets its promise: the register's, with its reply as a number.
use Rattle.gateway.specs.Packed.{reply_number}
use Rattle.gateway.proofs.Numbered.{numbered}
use Rattle.gateway.proofs.zidlemowo_step.Goals as goal

pub returns : goal.returns
returns c = numbered reply_number c.step.ensures c.pack_answer.ensures
