-- `formed::blocks_bits` meets its contract: the fronts of the blocks passed are good, and what their numbers say is laid over the bits.
use Rattle.std.proofs.Common.{◌≡◌, ◌≤◌, length}
use Rattle.std.specs.Slice.Iter.{chunks_exact_rest, chunks_exact_size}
use Rattle.layout.specs.Places.{handler_long, handler_part}
use Rattle.formed.specs.Seen.{NumbersFit, GoodFront}
use Rattle.formed.proofs.Bits.{EachBelow, Told}
use Rattle.formed.proofs.Parts.{blocks_left}
use Rattle.formed.proofs.blocks_bits.Given as goal

abbrev pub invariant-loop-block : goal.invariant-loop-block
invariant-loop-block l = let passed = length l.yielded in record {
  whole : chunks_exact_size l.block-iterator ≡ handler_long l.m;
  rest : chunks_exact_rest l.block-iterator ≡ blocks_left l.m l.n l.body passed;
  within : passed ≤ l.n;
  fronts : EachBelow passed (λ i. GoodFront l.last l.m (handler_part l.m l.body i));
  numbers : Told 0 (λ i. NumbersFit l.m (handler_part l.m l.body i)) passed l.bits;
}
