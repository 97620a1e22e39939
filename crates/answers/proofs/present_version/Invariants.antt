-- `answers::present_version` meets its contract: of the commits passed, each that wrote the cell is counted.
use Rattle.std.proofs.Common.{◌<◌}
use Rattle.answers.proofs.Present.{IsCounted}
use Rattle.answers.proofs.present_version.Given as goal

abbrev pub invariant-loop-place : goal.invariant-loop-place
invariant-loop-place l = record { few : l.number < l.place; counted : IsCounted l.history.words.now l.x l.place l.number }
