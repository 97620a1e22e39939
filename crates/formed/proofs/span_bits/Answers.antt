-- `formed::span_bits` meets its contract: what the places passed say is laid over the bits.
use Rattle.std.proofs.Common.{arith}
use Rattle.formed.proofs.Bits.{told_more, over_numbers}
use Rattle.formed.proofs.span_bits.Goals as goal

pub loop-y-preserved : goal.loop-y-preserved
loop-y-preserved c = told_more _ _ c.loop-y.invariant (over_numbers _ _ _) (λ both above. both, λ both. both (omega arith))
