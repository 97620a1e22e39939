-- `searches::first_of` meets its contract: where none is left, each cell of the set failed.
use Rattle.searches.proofs.Cells.{search_ends}
use Rattle.searches.proofs.first_of.Goals as goal

pub returns : goal.returns
returns g c = search_ends c.loop-y.invariant c.in-None.ensures.steps.0
