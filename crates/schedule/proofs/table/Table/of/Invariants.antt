-- `schedule::table::Table::of` meets its contract: the bodies passed begin where they have to, and the next is due where the
-- last one ended.
use Rattle.std.proofs.Common.{◌≡◌, length}
use Rattle.std.specs.Slice.Iter.{chunks_exact_rest, chunks_exact_size}
use Rattle.schedule.proofs.Sounds.{Passed}
use Rattle.schedule.proofs.Entries.{entries_from}
use Rattle.schedule.proofs.table.Table.of.Given as goal

abbrev pub invariant-loop-entry : goal.invariant-loop-entry
invariant-loop-entry l = record {
  size : chunks_exact_size l.entry-iterator ≡ 4;
  left : chunks_exact_rest l.entry-iterator ≡ entries_from l.file l.start l.entries (length l.yielded);
  passed : Passed l.file l.start l.entries (length l.yielded) l.due;
}
