-- `sheets::add_admitted` meets its promise: a full sheet is left as it is, and into any other the file's run is counted.
use mathlib.Core.Path.{sym, ◌∙◌}
use Rattle.sheets.proofs.Full.{full_none}
use Rattle.sheets.proofs.Adds.{add_full, add_counted}
use Rattle.sheets.proofs.add_admitted.Goals as goal

pub returns-then-is_full : goal.returns-then-is_full
returns-then-is_full c = add_full _ _ c.requires.0 c.requires.1 (sym c.is_full.ensures ∙ c.if-is_full.true)

pub count_run-requires : goal.count_run-requires
count_run-requires c = (full_none _ (sym c.is_full.ensures ∙ c.if-is_full.false) c.requires.0, c.requires.1)

pub returns : goal.returns
returns c = let room = sym c.is_full.ensures ∙ c.if-is_full.false in
    add_counted _ _ c.requires.0 c.requires.1 room c.count_run.ensures
