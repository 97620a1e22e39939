-- `places::body::cell_at` meets its contract: with at most 32 cells no sum or product is large.
use native.Mathlib.Omega.{arith}
use Rattle.layout.proofs.Places.{cell_start_small}
use Rattle.places.proofs.body.cell_at.Goals as goal

pub overflow_mul-start : goal.overflow_mul-start
overflow_mul-start c = omega (arith, cell_start_small c.args.m c.args.c (omega arith) (omega arith))

pub overflow_add-result : goal.overflow_add-result
overflow_add-result c = omega (arith, cell_start_small c.args.m c.args.c (omega arith) (omega arith))
