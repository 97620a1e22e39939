-- `prints::put_cells` meets its contract: cell by cell, each line is put.
use Rattle.std.proofs.Common.{◌+◌, ◌*◌, ◌≤◌}
use Rattle.text.specs.Pages.{Writes}
use Rattle.runs.specs.Players.{player_is}
use Rattle.prints.specs.ByPlaces.{shown_cells}
use Rattle.prints.proofs.put_cells.Given as goal

abbrev pub invariant-loop-c : goal.invariant-loop-c
invariant-loop-c l =
    (l.c ≤ l.cells) × (l.page.end ≤ l.initial.page.end + l.c * 68) × Writes (shown_cells (player_is l.player) l.c l.words) l.initial.page l.page
