-- `block::raise` meets its contract: the numbers passed are raised, each from what it was, since none was changed before its turn.
use Rattle.std.proofs.Common.{max}
use Rattle.layout.specs.Places.{transaction_number_in}
use Rattle.words.specs.Rows.{Changed}
use Rattle.block.specs.Blocks.{row_table}
use Rattle.block.proofs.raise.Given as goal

abbrev pub invariant-loop-y : goal.invariant-loop-y
invariant-loop-y l = Changed l.transaction l.y (λ j. max (transaction_number_in l.m l.initial.block j) (row_table l.numbers j)) l.initial.block l.block
