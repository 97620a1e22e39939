-- `searches::spent` meets its contract: the first of the set with 65,535 as its own number.
use Rattle.std.proofs.Common.{rules}
use Rattle.searches.proofs.Cells.{cell_inside, own_inside, first_is_lowest}
use Rattle.searches.proofs.spent.Goals as goal

pub first_of-requires : goal.first_of-requires
first_of-requires c y there = let inside = cell_inside c.requires y there in let own = own_inside c.requires y there in search (rules, inside, own)

pub returns : goal.returns
returns c = first_is_lowest _ _ c.requires c.first_of.ensures (λ y b there passed. search rules)
