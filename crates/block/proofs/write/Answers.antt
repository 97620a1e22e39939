-- `block::write` meets its contract: the copy is stored, and the cell joins the written set.
use Rattle.std.proofs.Common.{arith}
use Rattle.layout.proofs.Blocks.{handler_is, viewed_handler}
use Rattle.block.proofs.Held.{wrote_held}
use Rattle.block.proofs.write.Goals as goal

pub returns : goal.returns
returns c = let before = c.requires.0 in
    let holds = viewed_handler _ c.args.block.now before.words.size before.good in
    handler_is _ _ _ (wrote_held holds before.opened c.requires.1 c.args.value (omega arith) c.with_cell.ensures)
