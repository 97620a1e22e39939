-- `runs::cell_end` meets its promise: the player that is named is asked.
use Rattle.runs.proofs.Players.{shows_as}
use Rattle.runs.proofs.cell_end.Goals as goal

pub returns-in-Register : goal.returns-in-Register
returns-in-Register c = shows_as c.in-Register.is c.cell_end.ensures

pub returns-in-Judge : goal.returns-in-Judge
returns-in-Judge c = shows_as c.in-Judge.is c.cell_end-in-Judge.ensures
