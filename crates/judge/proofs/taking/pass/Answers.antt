-- `judge::taking::pass` meets its contract: one commit too many is refused, and everything else is taken and reported.
use Rattle.std.proofs.Common.{sym, ◌∙◌}
use Rattle.judge.proofs.Passing.{pass_stops, pass_takes}
use Rattle.judge.proofs.taking.pass.Goals as goal

pub returns-then-is_too_many : goal.returns-then-is_too_many
returns-then-is_too_many c = pass_stops _ _ _ (sym c.is_too_many.ensures ∙ c.if-is_too_many.true)

pub returns : goal.returns
returns c = pass_takes _ _ _ (sym c.is_too_many.ensures ∙ c.if-is_too_many.false) c.take-outcome.ensures
