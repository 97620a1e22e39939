-- So many zeros are as many bytes.
use Rattle.std.proofs.Common.{ℕ, sym}
use lib.ListN.{length-replicate}
use Rattle.limits.specs.Limits.{most_printed}
use Rattle.filters.proofs.room.Goals as goal

pub returns : goal.returns
returns c = sym (length-replicate {A = ℕ} most_printed 0)
