-- `prints::put_places` meets its contract: the run is underway at every place, and put whole at the end, or up to where it stops.
use Rattle.std.proofs.Common.{◌+◌, ◌*◌, ◌≤◌}
use Rattle.schedule.specs.Taking.{at_start}
use Rattle.runs.specs.Players.{player_is}
use Rattle.runs.specs.ByPlaces.{places_from}
use Rattle.prints.proofs.Underway.{Underway}
use Rattle.prints.proofs.put_places.Given as goal

-- How far the run is, and that the lines so far are no longer than they may be.
abbrev pub invariant-loop-place : goal.invariant-loop-place
invariant-loop-place l =
    (l.place ≤ l.places) × (l.page.end ≤ l.initial.page.end + l.place * 34)
    × Underway (player_is l.player) l.file l.places l.cursors.at l.place l.words
    (places_from (player_is l.player) l.file l.places at_start 0 l.initial.words) l.initial.page l.page
