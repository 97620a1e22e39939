-- `block::settle` meets its contract: the transaction's numbers are copied to the handler's, and the block is put to rest.
use Rattle.std.proofs.Common.{ap, ◌∙◌}
use Rattle.rules.specs.steps.Register.{idle}
use Rattle.layout.specs.View.{word_setting, pour_handler}
use Rattle.block.proofs.Headed.{settles}
use Rattle.block.proofs.settle.Goals as goal

pub returns : goal.returns
returns c = c.rest.ensures
    ∙ ap (λ numbers. pour_handler c.args.m (idle (word_setting c.args.m) numbers))
    (settles c.transaction_numbers-transaction.ensures c.copy.ensures)
