-- `runs::step` meets its promise: the player that is named is asked.
use Rattle.runs.proofs.Players.{steps_as}
use Rattle.runs.proofs.step.Goals as goal

pub returns-in-Register : goal.returns-in-Register
returns-in-Register c = steps_as c.in-Register.is c.step.ensures

pub returns-in-Judge : goal.returns-in-Judge
returns-in-Judge c = steps_as c.in-Judge.is c.step-in-Judge.ensures
