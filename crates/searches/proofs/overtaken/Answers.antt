-- `searches::overtaken` meets its contract: the first of the set whose own number is not the one that is held.
use Rattle.std.proofs.Common.{rules}
use Rattle.searches.proofs.Cells.{cell_inside, own_inside, first_is_lowest}
use Rattle.searches.proofs.overtaken.Goals as goal

pub first_of-requires : goal.first_of-requires
first_of-requires c y there = let inside = cell_inside c.requires.0 y there in let own = own_inside c.requires.0 y there in search (rules, inside, own)

pub returns : goal.returns
returns c = first_is_lowest _ _ c.requires.0 c.first_of.ensures (λ y b there passed. search rules)
