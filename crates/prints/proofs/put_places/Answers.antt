-- `prints::put_places` meets its contract: the run is underway at every place, and put whole at the end, or up to where it stops.
use Rattle.std.proofs.Common.{◌≡◌, sym, ◌∙◌, arith}
use Rattle.lines.specs.Lines.{line_is}
use Rattle.runs.specs.Stopping.{stops_at}
use Rattle.runs.proofs.Apart.{stops_anywhere}
use Rattle.prints.proofs.Underway.{underway_start, underway_more, underway_last, underway_end}
use Rattle.prints.proofs.put_places.Goals as goal
use Rattle.prints.proofs.put_places.Goals.{After-stops_at}

-- Whether the run stops there is asked of the line that was put.
stops : (c : After-stops_at) → stops_at (line_is c.loop-place.place c.play_place-placed.result.shown) ≡ c.stops_at.result
stops c =
    stops_anywhere c.loop-place.place c.play_place-placed.result.shown ∙ sym c.stops_at.ensures.replied

pub loop-place-init : goal.loop-place-init
loop-place-init c = (omega arith, omega arith, rw c.at_start-cursors.ensures.replied underway_start)

pub returns-then-stops_at-clause-places_put : goal.returns-then-stops_at-clause-places_put
returns-then-stops_at-clause-places_put c =
    let here = stops (goal.at.returns-then-stops_at-clause-places_put c).After-stops_at ∙ c.if-stops_at.true in
    underway_last (omega arith) c.loop-place.invariant.2 c.play_place-placed.ensures c.put_place.ensures.puts here

pub loop-place-preserved : goal.loop-place-preserved
loop-place-preserved c = let loop = c.loop-place in
    let line = c.put_place.ensures in
    let on = stops (goal.at.loop-place-preserved c).After-stops_at ∙ c.if-stops_at.false in
    (omega arith, omega (arith, loop.invariant.1, line.upper_bound), underway_more (omega arith) loop.invariant.2 c.play_place-placed.ensures line.puts on)

pub returns-clause-places_put : goal.returns-clause-places_put
returns-clause-places_put c =
    let all : c.args.places ≡ c.loop-place.place = omega arith in
    underway_end all c.loop-place.invariant.2
