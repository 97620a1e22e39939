-- `steps::single::is_open` meets its contract: the first word of the handler's block is its phase.
use Rattle.steps.proofs.Said.{phase_said}
use Rattle.steps.proofs.single.is_open.Goals as goal

pub returns : goal.returns
returns c = phase_said c.requires c.block_at.ensures.starts
