-- `searches::first_of` meets its contract: each cell of the set that is not left failed.
use Rattle.searches.proofs.Cells.{Searched}
use Rattle.searches.proofs.first_of.Given as goal

abbrev pub invariant-loop-y : goal.invariant-loop-y
invariant-loop-y g l = Searched l.set (goal.F-post g l.passes) l.y-iterator.left
