-- `formed::good_body` meets its contract: it answers no where the words are too few or a front is not good, and else whether all numbers fit.
use Rattle.std.proofs.Common.{arith}
use Rattle.formed.proofs.Answers.{too_short, bad_front, numbers_seen}
use Rattle.formed.proofs.good_body.Goals as goal

pub returns-then-body-body_words : goal.returns-then-body-body_words
returns-then-body-body_words c = too_short _ _ _ _ (omega arith)

pub returns-in-Some : goal.returns-in-Some
returns-in-Some c = let (fronts, numbers) = c.in-Some.ensures in numbers_seen _ _ _ _ (omega arith) fronts numbers c.cells_bits.ensures

pub returns-in-None : goal.returns-in-None
returns-in-None c = bad_front _ _ _ _ c.in-None.ensures
