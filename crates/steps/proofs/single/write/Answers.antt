-- `steps::single::write` meets its contract: the handler's block is lent, and comes back as the block of one that has written.
use mathlib.Core.Path.{refl}
use Rattle.rules.specs.steps.Figure.{wrote, step}
use Rattle.steps.proofs.Lent.{block_open, lent_takes}
use Rattle.steps.proofs.single.write.Goals as goal

pub returns : goal.returns
unfolding step
returns c =
    lent_takes c.requires.seated c.block_at.ensures (λ h. wrote h c.args.x c.args.value) refl refl
    c.write.ensures

pub write-requires : goal.write-requires
write-requires c = let ready = c.requires in
    (block_open ready.seated c.block_at.ensures ready.phase, ready.cell)
