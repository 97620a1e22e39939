-- `steps::single::give_up` meets its contract: the handler's block is lent, and comes back as the block of one that rests.
use mathlib.Core.Path.{refl}
use Rattle.rules.specs.steps.Figure.{step}
use Rattle.steps.proofs.Lent.{block_words, rest_takes}
use Rattle.steps.proofs.single.give_up.Goals as goal

pub returns : goal.returns
unfolding step
returns c =
    rest_takes c.requires.seated c.block_at.ensures refl c.rest.ensures

pub rest-requires : goal.rest-requires
rest-requires c = block_words c.requires.seated c.block_at.ensures
