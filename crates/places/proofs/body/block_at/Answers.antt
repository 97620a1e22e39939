-- `places::body::block_at` meets its contract: with at most 32 cells and 16 handlers no sum or product is large.
use native.Mathlib.Omega.{arith}
use Rattle.layout.proofs.Places.{cell_start_small, handler_start_small}
use Rattle.places.proofs.body.block_at.Goals as goal

pub overflow_mul-start : goal.overflow_mul-start
overflow_mul-start c = omega (arith, cell_start_small c.args.m c.args.m (omega arith) (omega arith))

pub overflow_mul-start-2 : goal.overflow_mul-start-2
overflow_mul-start-2 c = omega (arith, handler_start_small c.args.m c.args.i (omega arith) (omega arith))

pub overflow_add-start-2 : goal.overflow_add-start-2
overflow_add-start-2 c = omega (arith, handler_start_small c.args.m c.args.i (omega arith) (omega arith))

pub overflow_add-result : goal.overflow_add-result
overflow_add-result c = omega (arith, handler_start_small c.args.m c.args.i (omega arith) (omega arith))
