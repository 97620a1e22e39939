-- `prints::put_cells` meets its contract: cell by cell, each line is put.
use Rattle.std.proofs.Common.{arith}
use Rattle.text.proofs.Pages.{turn_none, turn_more}
use Rattle.prints.proofs.put_cells.Goals as goal

pub loop-c-init : goal.loop-c-init
loop-c-init c = (omega arith, omega arith, turn_none _)

pub loop-c-preserved : goal.loop-c-preserved
loop-c-preserved c = let loop = c.loop-c in
    let line = c.put_cell.ensures in
    (omega arith, omega (arith, loop.invariant.1, line.upper_bound), turn_more _ loop.c loop.invariant.2 (rw c.cell_end.ensures.replied at line.puts))
