-- `sheets::count_places` meets its contract: the run is underway at every place, and counted whole at the end.
use Prim.Native.Nat.{◌≤◌}
use mathlib.Core.Path.{◌≡◌}
use lib.ListN.{length}
use Rattle.schedule.specs.Taking.{at_start}
use Rattle.runs.specs.Players.{the_register}
use Rattle.runs.specs.ByPlaces.{places_from}
use Rattle.sheets.proofs.Underway.{Underway}
use Rattle.sheets.proofs.count_places.Given as goal

-- How far the run is.
abbrev pub invariant-loop-place : goal.invariant-loop-place
invariant-loop-place l = (l.place ≤ l.places) × (length l.words ≡ length l.initial.words)
    × Underway l.file l.places l.cursors.at l.place l.words l.initial.sheet l.sheet
    (places_from the_register l.file l.places at_start 0 l.initial.words).lines
