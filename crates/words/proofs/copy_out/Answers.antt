-- `words::copy_out` meets its contract: the words passed are in the row.
use Rattle.std.proofs.Common.{rules}
use Rattle.words.proofs.Changes.{row_copied}
use Rattle.words.proofs.copy_out.Goals as goal

pub returns : goal.returns
returns c = row_copied _ _ (search rules) c.requires.0 c.requires.1
