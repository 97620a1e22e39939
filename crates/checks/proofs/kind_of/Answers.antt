-- `checks::kind_of` meets its promise: the entry of a code says what the plain sheet does.
use mathlib.Core.Path.{refl, ◌∙◌}
use Rattle.checks.proofs.Tables.{entry_tells}
use Rattle.checks.proofs.kind_of.Goals as goal

pub returns : goal.returns
returns c = record { replied = c.kind_in.ensures.replied ∙ entry_tells _ c.entry_of.ensures; left = refl }
