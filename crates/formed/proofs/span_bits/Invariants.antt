-- `formed::span_bits` meets its contract: what the places passed say is laid over the bits.
use Rattle.std.proofs.Common.{◌≤◌, get_or}
use Rattle.formed.proofs.Bits.{Told}
use Rattle.formed.proofs.span_bits.Given as goal

abbrev pub invariant-loop-y : goal.invariant-loop-y
invariant-loop-y l = Told l.bits (λ j. l.from ≤ j → (get_or l.first j 0 ≤ 65535) × (get_or l.second j 0 ≤ 65535)) l.y l.over
