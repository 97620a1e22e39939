-- `places::body::body_words` meets its contract: the length and all on the way to it is small.
use Prim.Native.Nat.{◌≤◌}
use native.Mathlib.Omega.{arith}
use Rattle.layout.specs.Places.{body_long}
use Rattle.layout.proofs.Places.{handler_start_small}
use Rattle.places.proofs.body.body_words.Goals as goal

-- The length is at most that of the largest body.
small : (c : goal.Start) → body_long c.args.m c.args.n ≤ 2640
small c = handler_start_small c.args.m c.args.n c.requires.0 c.requires.1

pub overflow_mul-result : goal.overflow_mul-result
overflow_mul-result c = omega (arith, small c)

pub overflow_mul-result-3 : goal.overflow_mul-result-3
overflow_mul-result-3 c = omega (arith, small c)

pub overflow_add-result-3 : goal.overflow_add-result-3
overflow_add-result-3 c = omega (arith, small c)
