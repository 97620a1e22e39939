-- `runs::show_next` meets its contract: a step is asked of the player, and its answer shown.
use Rattle.runs.proofs.Shows.{shown_as, nothing_shown, refused_shown, asked_shown}
use Rattle.runs.proofs.show_next.Goals as goal

pub returns-in-Rejected : goal.returns-in-Rejected
returns-in-Rejected c = nothing_shown c.in-Rejected.is

pub returns-in-Refused : goal.returns-in-Refused
returns-in-Refused c = shown_as c.in-Refused.is refused_shown

pub returns-in-Taken : goal.returns-in-Taken
returns-in-Taken c = shown_as c.in-Taken.is (asked_shown c.step-answer.ensures)
