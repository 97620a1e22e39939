-- `runs::open` meets its promise: the words of the player that is named are opened.
use Rattle.runs.proofs.Players.{opens_as}
use Rattle.runs.proofs.open.Goals as goal

pub returns-in-Register : goal.returns-in-Register
returns-in-Register c = opens_as c.in-Register.is c.open.ensures

pub returns-in-Judge : goal.returns-in-Judge
returns-in-Judge c = opens_as c.in-Judge.is c.open-in-Judge.ensures
