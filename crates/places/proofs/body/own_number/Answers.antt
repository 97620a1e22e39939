-- `places::body::own_number` meets its contract: with at most 32 cells no sum or product is large.
use native.Mathlib.Omega.{arith}
use Rattle.layout.proofs.Places.{cell_start_small}
use Rattle.places.proofs.body.own_number.Goals as goal

pub overflow_mul-result : goal.overflow_mul-result
overflow_mul-result c = omega (arith, cell_start_small c.args.m c.args.c (omega arith) (omega arith))

pub overflow_add-result-2 : goal.overflow_add-result-2
overflow_add-result-2 c = omega (arith, cell_start_small c.args.m c.args.c (omega arith) (omega arith))

pub overflow_add-result-3 : goal.overflow_add-result-3
overflow_add-result-3 c = omega (arith, cell_start_small c.args.m c.args.c (omega arith) (omega arith))
