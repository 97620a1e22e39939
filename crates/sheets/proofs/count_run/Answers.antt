-- `sheets::count_run` meets its contract: on words that are enough for every register, the places counted are the file's run.
use mathlib.Core.Path.{ap, ◌∙◌}
use native.Mathlib.Omega.{arith}
use Rattle.schedule.proofs.Nexts.{places_few}
use Rattle.sheets.specs.Sheets.{with_lines}
use Rattle.sheets.proofs.Admitted.{admitted_lines}
use Rattle.sheets.proofs.count_run.Goals as goal

pub count_places-requires : goal.count_places-requires
count_places-requires c = (c.requires.0, omega (arith, c.order_places-places.ensures.replied, places_few c.args.file.now))

pub returns : goal.returns
returns c = let places = c.order_places-places.ensures.replied in
    c.count_places.ensures ∙ ap (with_lines c.args.sheet.now)
    (admitted_lines c.args.file.now _ c.requires.1 (omega arith) c.open.ensures.left places)
