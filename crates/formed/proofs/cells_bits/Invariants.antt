-- `formed::cells_bits` meets its contract: of the cells passed, what their numbers say is laid over the bits.
use Rattle.std.proofs.Common.{◌≡◌}
use Rattle.layout.specs.Places.{cell_start}
use Rattle.formed.proofs.Bits.{Told}
use Rattle.formed.proofs.Parts.{PairFits}
use Rattle.formed.proofs.cells_bits.Given as goal

abbrev pub invariant-loop-c : goal.invariant-loop-c
invariant-loop-c l = record {
  place : l.at ≡ cell_start l.m l.c;
  told : Told l.bits (PairFits l.m l.body) l.c l.over;
}
