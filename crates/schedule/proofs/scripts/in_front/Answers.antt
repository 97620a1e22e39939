-- `schedule::scripts::in_front` meets its contract: used up, no step, cut short, or a step with its value.
use Rattle.std.proofs.Common.{◌≡◌, ◌<◌, length, sym, ◌∙◌, arith}
use Rattle.rules.specs.steps.Codes.{Kind, plain_sheet}
use Rattle.checks.specs.Entries.{entry_says}
use Rattle.checks.proofs.Tables.{table_tells, plain_fits}
use Rattle.schedule.specs.Bytes.{byte_at}
use Rattle.schedule.proofs.Takes.{lent, front_used, front_unknown, front_cut, front_stands}
use Rattle.schedule.proofs.scripts.in_front.Goals as goal
use Rattle.schedule.proofs.scripts.in_front.Goals.{After-entry_by-entry}

-- Something is left.
inside : (c : After-entry_by-entry) → c.args.at < length c.args.script.now
inside c = omega arith

-- The entry says the kind of the code in front.
told : (c : After-entry_by-entry) {kind : Kind} → kind ≡ entry_says c.entry_by-entry.result
    → plain_sheet (byte_at (lent c.args.script.now c.args.at (inside c)) 0) ≡ kind
told c said = sym (said ∙ table_tells plain_fits c.requires _ c.entry_by-entry.ensures)

pub returns-then-script-at : goal.returns-then-script-at
returns-then-script-at c = front_used c.args.script.now c.args.at (omega arith)

pub returns-in_default : goal.returns-in_default
returns-in_default c =
    let there = (goal.at.returns-in_default c).After-entry_by-entry in
    front_unknown _ _ (inside there) (told there c.in_default.ensures.replied)

pub returns-then-left-long : goal.returns-then-left-long
returns-then-left-long c =
    let there = (goal.at.returns-then-left-long c).After-entry_by-entry in
    front_cut _ _ (inside there) (told there c.in-Some.ensures.replied) (omega arith)

pub returns : goal.returns
returns c =
    let there = (goal.at.returns c).After-entry_by-entry in
    rw c.step_bytes-long.ensures
    (front_stands _ _ (inside there) (told there c.in-Some.ensures.replied) (omega arith) c.value_behind-value.ensures)
