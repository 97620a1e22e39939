-- `block::begin` meets its contract: the front, then the copied numbers, then the cleared copies.
use Rattle.words.proofs.Changes.{changed_at}
use Rattle.block.proofs.Headed.{headed, begins}
use Rattle.block.proofs.begin.Goals as goal

pub returns : goal.returns
returns c = begins _ (headed _ 1 c.args.block.now c.requires.size)
    (changed_at c.transaction_numbers-transaction.ensures c.copy.ensures)
    (changed_at c.copies-copies.ensures c.clear.ensures)
