-- `checks::sheet::plain_table` meets its promise: the table is that of the ranges, by one test that is computed over all its entries.
use mathlib.Core.Path.{refl}
use Rattle.rules.specs.steps.Codes.{plain_sheet}
use Rattle.checks.specs.Entries.{entries_from}
use Rattle.checks.proofs.sheet.plain_table.Goals as goal

pub returns : goal.returns
unfolding plain_sheet entries_from
returns c = record { replied = refl; left = refl }
