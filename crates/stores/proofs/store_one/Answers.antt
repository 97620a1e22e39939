-- `stores::store_one` meets its contract: the value in front of the cell's words, and the row held behind it, copied from behind the cells.
use Prim.Native.Nat.{◌+◌, ◌*◌, ◌≤◌}
use mathlib.Core.Logic.{inr}
use mathlib.Core.Path.{◌∙◌}
use native.Mathlib.Omega.{arith}
use lib.ListN.{length-set}
use Rattle.layout.specs.Places.{cell_long}
use Rattle.layout.proofs.Places.{cell_ends}
use Rattle.stores.proofs.Storing.{cell_stored}
use Rattle.stores.proofs.store_one.Goals as goal
use Rattle.stores.proofs.store_one.Goals.{After-cell_at-span}

-- The cell's words end where the cells do, or before.
before : (c : After-cell_at-span) → let m = c.args.m in c.cell_at-span.result.start + cell_long m ≤ m * cell_long m
before c = omega (arith, cell_ends c.args.m c.args.c c.requires.0)

pub offset_bounds-body-start : goal.offset_bounds-body-start
offset_bounds-body-start c = omega (arith, before (goal.at.offset_bounds-body-start c).After-cell_at-span)

pub bounds-body-start : goal.bounds-body-start
bounds-body-start c = omega (arith, before (goal.at.bounds-body-start c).After-cell_at-span)

pub copy-requires : goal.copy-requires
copy-requires c = let lies = before (goal.at.copy-requires c).After-cell_at-span in
    (inr (omega (arith, lies)), simp length-set (omega (arith, lies)), simp length-set (omega (arith, lies)))

pub shape_of-body : goal.shape_of-body
shape_of-body c = c.copy.ensures.untouched.size ∙ simp length-set

pub returns : goal.returns
returns c = cell_stored _ c.args.c _ c.args.copies c.args.held c.args.body.now _
    c.cell_at-span.ensures.starts c.requires.0 c.requires.1 c.copy.ensures
