-- `turns::take::take` meets its contract: each step is taken, and those that take no value take any.
use Rattle.turns.proofs.Taking.{begin_any, try_any, give_up_any, read_any}
use Rattle.turns.proofs.take.take.Goals as goal

pub returns-in-Begin : goal.returns-in-Begin
returns-in-Begin c = rw c.in-Begin.is (begin_any c.begin.ensures)

pub returns-in-Try : goal.returns-in-Try
returns-in-Try c = rw c.in-Try.is (try_any c.attempt.ensures)

pub returns-in-GiveUp : goal.returns-in-GiveUp
returns-in-GiveUp c = rw c.in-GiveUp.is (give_up_any c.give_up.ensures)

pub returns-in-Read : goal.returns-in-Read
returns-in-Read c = rw c.in-Read.is (read_any c.read.ensures)
