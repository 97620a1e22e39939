-- `checks::entry_of` meets its promise: the plain sheet's table has the entry of every code.
use mathlib.Core.Path.{refl, ◌∙◌}
use Rattle.checks.proofs.Tables.{table_at, plain_fits}
use Rattle.checks.proofs.entry_of.Goals as goal

pub returns : goal.returns
returns c = record { replied = c.entry_by.ensures.replied ∙ table_at plain_fits c.plain_table.ensures c.args.code; left = refl }
