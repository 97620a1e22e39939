-- `rows::take_steps` meets its contract: step by step, each on a well-formed register, and each reported behind the others.
use Rattle.std.proofs.Common.{◌≡◌, ◌+◌, ◌*◌, ◌≤◌, suc, length, drop, take_all, length-drop, rules, arith, sym, ap, ◌∙◌}
use Rattle.std.proofs.lemmas.List.{length_push}
use Rattle.std.specs.Iterator.Adapters.{enumerate_source}
use Rattle.std.specs.Slice.Iter.{chunks_exact_rest}
use Rattle.limits.specs.Limits.{step_width, report_width}
use Rattle.replies.specs.Meaning.{reply_is}
use Rattle.checks.proofs.Tables.{table_tells, plain_fits}
use Rattle.rows.specs.Rows.{steps_in}
use Rattle.rows.proofs.Steps.{ask_at, steps_count}
use Rattle.rows.proofs.Taking.{takes_none, takes_next_lem, step_next}
use Rattle.rows.proofs.take_steps.Goals as goal
use Rattle.rows.proofs.take_steps.Goals.{In-Some}

-- The step at hand is the next of the row, and those behind it are left.
next : (c : In-Some) → let steps = c.args.steps.now in let taken = length c.loop-k.yielded in
    (step_width * suc taken ≤ length steps) × (ask_at steps (step_width * taken) ≡ ask_at c.in-Some.step.now 0)
    × (chunks_exact_rest (enumerate_source c.next.new.self) ≡ drop (step_width * (taken + 1)) steps)
next c = let loop = c.loop-k.invariant in let came = c.in-Some.ensures.steps.0.1 in
    step_next _ _ c.in-Some.step.now (came.1 ∙ loop.width) (sym loop.left ∙ came.0)

-- Its report fits the words for reports.
fits : (c : In-Some) → let args = c.args in
    args.place + report_width * suc (length c.loop-k.yielded) ≤ length args.reports.now
fits c = omega (arith, c.requires.well_formed.1, steps_count c.args.steps.now, (next c).0)

pub loop-k-init : goal.loop-k-init
loop-k-init c = record {
  width = search rules;
  left = search rules;
  counted = search rules;
  inside = omega arith;
  takes = takes_none _ _ _ _ c.requires.well_formed.0;
}

pub put_report-requires : goal.put_report-requires
put_report-requires c =
    let loop = c.loop-k.invariant in
    omega (arith, fits (goal.at.put_report-requires c).In-Some, loop.takes.long, c.in-Some.ensures.steps.1, loop.counted)

pub loop-k-preserved : goal.loop-k-preserved
loop-k-preserved c =
    let at = (goal.at.loop-k-preserved c).In-Some in
    let (inside, here, left) = next at in
    let loop = c.loop-k.invariant in
    let steps = c.in-Some.ensures.steps in
    let told = c.step_formed-turned.ensures _ (table_tells plain_fits c.requires.table_promise _ c.entry_by-entry.ensures) in
    rw length_push (record {
      width = steps.0.0 ∙ loop.width;
      left = left;
      counted = omega (arith, steps.2, loop.counted);
      inside = omega (arith, inside);
      takes = takes_next_lem _ _ _ _ _ inside (fits at) {reply = reply_is c.answer_of.result} loop.takes here
          (rw c.answer_of.ensures told.0) told.1 (rw (← loop.counted, ← steps.1) c.put_report.ensures);
    })

pub returns : goal.returns
returns c =
    let loop = c.loop-k.invariant in
    let steps = c.args.steps.now in
    let few = c.in-None.ensures.steps.0.1.0 in
    let all : length c.loop-k.yielded ≡ length (steps_in steps)
    = omega (arith, few, loop.width, loop.inside, steps_count steps, simp length-drop at (ap length loop.left)) in
    let done = rw all at loop.takes in
    let whole = take_all (length (steps_in steps)) (steps_in steps) (omega arith) in
    (rw whole at done.left, rw whole at done.put)
