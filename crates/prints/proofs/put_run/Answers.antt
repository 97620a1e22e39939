-- `prints::put_run` meets its contract: header and lines, and the cells where the run came to its end.
use Rattle.prints.proofs.Runs.{run_stopped, run_whole}
use Rattle.prints.proofs.put_run.Goals as goal

pub returns-else-whole-clause-puts : goal.returns-else-whole-clause-puts
returns-else-whole-clause-puts c =
    let places = c.order_places-places.ensures.replied in
    run_stopped _ _ _ _ _ c.put_header.ensures.puts places c.open.ensures.left c.put_places-whole.ensures.places_put c.if-whole.false

pub returns-then-whole-clause-puts : goal.returns-then-whole-clause-puts
returns-then-whole-clause-puts c =
    let places = c.order_places-places.ensures.replied in
    let lines = c.put_places-whole.ensures.places_put in
    run_whole _ _ _ _ _ c.put_header.ensures.puts places c.open.ensures.left lines c.if-whole.true c.put_cells.ensures.puts
