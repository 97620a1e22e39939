-- `judge::taking::take` meets its contract: each step is taken.
use Rattle.judge.proofs.Passing.{takes_begin, takes_give_up, takes_write}
use Rattle.judge.proofs.taking.take.Goals as goal

pub returns-in-Begin : goal.returns-in-Begin
returns-in-Begin c = rw c.in-Begin.is (takes_begin _ _ _ c.handler_row.ensures c.empty_row.ensures)

pub returns-in-Try : goal.returns-in-Try
returns-in-Try c = rw c.in-Try.is (c.attempt.ensures _)

pub returns-in-GiveUp : goal.returns-in-GiveUp
returns-in-GiveUp c = rw c.in-GiveUp.is (takes_give_up _ _ _ c.handler_row-in-GiveUp.ensures c.empty_row-in-GiveUp.ensures)

pub returns-in-Read : goal.returns-in-Read
returns-in-Read c = rw c.in-Read.is (c.read.ensures _)

pub returns-in-Write : goal.returns-in-Write
returns-in-Write c = rw c.in-Write.is (takes_write _ _ _ _ c.handler_row-in-Write.ensures c.note_write.ensures)
