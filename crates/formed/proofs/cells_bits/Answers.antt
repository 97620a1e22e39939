-- `formed::cells_bits` meets its contract: of the cells passed, what their numbers say is laid over the bits.
use Rattle.std.proofs.Common.{◌+◌, ◌/◌, arith}
use Rattle.layout.proofs.Places.{cell_ends}
use Rattle.formed.proofs.Bits.{told_more, told_all}
use Rattle.formed.proofs.Parts.{behind_length, cell_span, cells_told}
use Rattle.formed.proofs.cells_bits.Goals as goal

pub overflow_add-next : goal.overflow_add-next
overflow_add-next c = omega (arith, cell_ends c.args.m c.loop-c.c (omega arith))

pub overflow_add-at : goal.overflow_add-at
overflow_add-at c = omega (arith, cell_ends c.args.m c.loop-c.c (omega arith))

pub span_bits-over-requires : goal.span_bits-over-requires
span_bits-over-requires c =
    let m = c.args.m in
    let fewer = behind_length c.cell_at-ahead.result.start c.args.body.now in
    let first = cell_ends m c.loop-c.c (omega arith) in
    let second = cell_ends m (m / 2 + c.loop-c.c) (omega arith) in
    (omega arith, omega arith, omega arith)

pub loop-c-preserved : goal.loop-c-preserved
loop-c-preserved c = record {
  place = omega (arith, c.loop-c.invariant.place);
  told = told_more _ _ c.loop-c.invariant.told c.span_bits-over.ensures (cell_span _ _ _ (omega arith) (omega arith) (omega arith));
}

pub returns : goal.returns
returns c = cells_told _ _ (told_all _ _ c.loop-c.invariant.told (omega arith) (omega arith))
