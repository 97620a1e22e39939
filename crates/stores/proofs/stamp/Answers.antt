-- `stores::stamp` meets its contract: the numbers of the cells taken are raised, and own numbers, in front of the row, stay.
use Rattle.std.proofs.Common.{arith}
use Rattle.stores.proofs.Taken.{cell_low}
use Rattle.stores.proofs.Stamping.{own_kept, stamps_more, stamps_all}
use Rattle.stores.proofs.stamp.Goals as goal

pub overflow_add-body : goal.overflow_add-body
overflow_add-body c = let least = c.in-Some.ensures.steps.0 in
    let kept = own_kept c.requires.0 c.loop-c.invariant least c.own_number.ensures in
    omega (arith, kept, c.requires.1 _ (cell_low c.loop-c.invariant.leaves least c.requires.0))

pub loop-c-preserved : goal.loop-c-preserved
loop-c-preserved c = let taken = c.in-Some.ensures.steps in
    stamps_more c.requires.0 c.loop-c.invariant taken.0 c.own_number.ensures taken.1

pub returns : goal.returns
returns c = stamps_all c.in-None.ensures.steps.0 c.loop-c.invariant
