-- `steps::single::begin` meets its contract: the handler's block is lent, and comes back as the block of one that has begun.
use Rattle.std.proofs.Common.{refl}
use Rattle.rules.specs.steps.Figure.{begun, step}
use Rattle.layout.specs.View.{word_setting}
use Rattle.steps.proofs.Lent.{lent_takes}
use Rattle.steps.proofs.single.begin.Goals as goal

pub returns : goal.returns
unfolding step
returns c = lent_takes c.requires.seated c.block_at.ensures (begun (word_setting _)) refl refl c.begin.ensures
