-- `sheets::counts_at` meets its contract: each field is the word in its column.
use mathlib.Core.Path.{refl}
use Rattle.counts.proofs.Columns.{each_column}
use Rattle.sheets.proofs.counts_at.Goals as goal

pub returns : goal.returns
returns c = record { holds = each_column _ refl refl refl refl refl refl }
