-- `block::rest` meets its contract: the front, and all behind the handler's numbers cleared.
use Rattle.words.proofs.Changes.{changed_at}
use Rattle.block.proofs.Headed.{headed, rests}
use Rattle.block.proofs.rest.Goals as goal

pub returns : goal.returns
returns c = let placed = c.transaction_numbers-transaction.ensures in
    rests (headed _ 0 c.args.block.now c.requires.size) (changed_at placed c.clear.ensures)
