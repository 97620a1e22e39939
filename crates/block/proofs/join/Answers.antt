-- `block::join` meets its contract: the numbers are raised, the own number is stored, the cell joins the read set, and the copy is stored.
use Rattle.std.proofs.Common.{arith}
use Rattle.layout.proofs.Blocks.{handler_is, viewed_handler}
use Rattle.block.proofs.Held.{joined_held}
use Rattle.block.proofs.join.Goals as goal

pub returns : goal.returns
returns c = let before = c.requires.0 in
    let holds = viewed_handler _ c.args.block.now before.words.size before.good in
    handler_is _ _ _ (joined_held holds before.opened c.requires.1 c.args.value c.args.numbers.now c.raise.ensures
    (omega arith) c.with_cell.ensures (omega arith))
