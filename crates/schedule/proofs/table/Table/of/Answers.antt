-- `schedule::table::Table::of` meets its contract: the bodies passed begin where they have to, and the next is due where the
-- last one ended.
use Rattle.std.proofs.Common.{◌≤◌, length, sym, ap, ◌∙◌, arith, rules, length-drop, length-take}
use Rattle.std.proofs.lemmas.List.{length_push}
use Rattle.std.specs.Slice.Iter.{chunks_exact_rest}
use Rattle.schedule.proofs.Sounds.{passed_none, passed_stops, passed_more, passed_all, passed_astray}
use Rattle.schedule.proofs.Entries.{EntryRead, entry_there, entry_offset, entry_length, entries_left}
use Rattle.schedule.proofs.table.Table.of.Goals as goal
use Rattle.schedule.proofs.table.Table.of.Goals.{In-Some, In-None}

-- The entry in front of what is left of the table.
read : (c : In-Some) → EntryRead c.args.file.now c.args.start c.args.entries (length c.loop-entry.yielded) c.in-Some.entry.now
    (chunks_exact_rest c.next.new.self)
read c =
    let steps = c.in-Some.ensures.steps.1 in
    let there = c.loop-entry.invariant in
    record { four = steps.1 ∙ there.size; front = sym there.left ∙ steps.0 }

-- At the end of the loop every entry is read.
all_read : (c : In-None) → c.args.entries ≤ length c.loop-entry.yielded
all_read c =
    let there = c.loop-entry.invariant in
    omega (arith, c.in-None.ensures.steps.1.0, there.size, simp (length-drop, length-take) at (ap length there.left))

pub loop-entry-init : goal.loop-entry-init
loop-entry-init c = record { size = search rules; left = search rules; passed = passed_none _ _ _ (omega arith) }

pub returns-then-offset-due : goal.returns-then-offset-due
returns-then-offset-due c = let front = read (goal.at.returns-then-offset-due c).In-Some in
    passed_stops c.loop-entry.invariant.passed (entry_there front) (c.short_at-offset.ensures ∙ entry_offset front) (λ there. omega arith)

pub loop-entry-preserved : goal.loop-entry-preserved
loop-entry-preserved c =
    let front = read (goal.at.loop-entry-preserved c).In-Some in
    let there = c.loop-entry.invariant in
    let begins = c.short_at-offset.ensures ∙ entry_offset front in
    rw length_push (record {
      size = c.in-Some.ensures.steps.0 ∙ there.size;
      left = entries_left front;
      passed = passed_more there.passed (entry_there front) begins (omega arith) (c.short_at.ensures ∙ entry_length front);
    })

pub returns-then-due-file : goal.returns-then-due-file
returns-then-due-file c = passed_astray c.loop-entry.invariant.passed (all_read (goal.at.returns-then-due-file c).In-None) (λ ends. omega arith)

pub invariant_of-result : goal.invariant_of-result
invariant_of-result c =
    record { sound = passed_all c.loop-entry.invariant.passed (all_read (goal.at.invariant_of-result c).In-None) (omega arith) }
