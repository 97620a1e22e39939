-- `rows::row` meets its promise: the words are tested once, then the room, and then all steps are taken.
use Rattle.std.proofs.Common.{◌≡◌, ◌+◌, ◌*◌, ◌/◌, true, false, ltb, ltb-false, length, sym, ◌∙◌}
use Rattle.std.proofs.lemmas.Bool.{not-true, not-false}
use Rattle.limits.specs.Limits.{step_width, report_width}
use Rattle.layout.specs.WellFormed.{is_well_formed}
use Rattle.layout.proofs.Tested.{tested}
use Rattle.rows.proofs.Steps.{steps_count}
use Rattle.rows.proofs.Rowing.{row_malformed, row_short, row_done}
use Rattle.rows.proofs.row.Goals as goal
use Rattle.rows.proofs.row.Goals.{Else-not-has_room, Else-not-well_formed}

-- Past the first test the words are a register,
formed : (c : Else-not-well_formed) → is_well_formed c.args.words.now ≡ true
formed c = sym c.well_formed-2.ensures ∙ c.if-not-well_formed.false

-- and past the second there is room.
room : (c : Else-not-has_room) → let args = c.args in
    ltb (length args.reports.now) (args.place + report_width * (length args.steps.now / step_width)) ≡ false
room c = not-true _ (sym c.has_room.ensures ∙ c.if-not-has_room.false)

pub returns-then-not-well_formed : goal.returns-then-not-well_formed
returns-then-not-well_formed c = row_malformed _ _ _ _ (sym c.well_formed-2.ensures ∙ c.if-not-well_formed.true)

pub returns-then-not-has_room : goal.returns-then-not-has_room
returns-then-not-has_room c = row_short _ _ _ _ (formed (goal.at.returns-then-not-has_room c).Else-not-well_formed)
    (not-false _ (sym c.has_room.ensures ∙ c.if-not-has_room.true))

pub take_steps-requires : goal.take_steps-requires
take_steps-requires c = record {
  table_promise = c.plain_table-table.ensures;
  well_formed = (
    (tested _).0 (formed (goal.at.take_steps-requires c).Else-not-well_formed),
    rw (steps_count c.args.steps.now) (ltb-false _ _ (room (goal.at.take_steps-requires c).Else-not-has_room)),
  );
}

pub returns : goal.returns
returns c =
    row_done _ _ _ _ (formed (goal.at.returns c).Else-not-well_formed) (room (goal.at.returns c).Else-not-has_room) c.take_steps.ensures.0
    c.take_steps.ensures.1
