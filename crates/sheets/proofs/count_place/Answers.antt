-- `sheets::count_place` meets its contract: an answer is counted, and where no step was taken there is nothing to count.
use Rattle.sheets.proofs.Answers.{none_counted}
use Rattle.sheets.proofs.count_place.Goals as goal

pub returns-in-Asked : goal.returns-in-Asked
returns-in-Asked c = rw c.in-Asked.is c.count_answer.ensures

pub returns-in-Nothing : goal.returns-in-Nothing
returns-in-Nothing c = none_counted c.requires.long c.in-Nothing.is
