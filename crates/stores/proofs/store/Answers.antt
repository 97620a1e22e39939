-- `stores::store` meets its contract: the cells taken are stored, and the rows behind the cells are as before.
use Rattle.stores.proofs.Taken.{cell_low}
use Rattle.stores.proofs.Storing.{storing_none, behind_still, storing_more, storing_all}
use Rattle.stores.proofs.store.Goals as goal

pub loop-c-init : goal.loop-c-init
loop-c-init c = rw (c.into_iter-c-iterator.ensures.into_iter_gives, c.of-c-items.ensures) (storing_none c.requires.0 c.requires.1)

pub store_one-requires : goal.store_one-requires
store_one-requires c = let storing = c.loop-c.invariant in
    let low = cell_low storing.leaves c.in-Some.ensures.steps.0 c.requires.0 in
    (low, behind_still c.requires.0 storing, behind_still c.requires.1 storing)

pub loop-c-preserved : goal.loop-c-preserved
loop-c-preserved c = let taken = c.in-Some.ensures.steps in
    storing_more c.requires.0 c.requires.1 c.loop-c.invariant taken.0 c.store_one.ensures taken.1

pub returns : goal.returns
returns c = storing_all c.in-None.ensures.steps.0 c.loop-c.invariant
