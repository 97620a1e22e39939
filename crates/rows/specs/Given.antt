-- When a row is refused with each number, in words of its own: 10 where the words are no well-formed register, and 42 where they are one
-- and the reports would pass the end of the words for them, so that a place beyond the end is refused even with no step.
use Rattle.std.specs.Prelude.{◌+◌, ◌<◌, length}
use Rattle.rules.specs.steps.Replies.{Refusal, not_well_formed, no_room}
use Rattle.layout.specs.WellFormed.{WellFormed}
use Rattle.rows.specs.Rows.{steps_in, RowCall, reports_long}

-- When each number is given.
pub data RowGiven (call : RowCall) : Refusal → Type 0 where
  malformed : (WellFormed call.words → ⊥) → RowGiven call not_well_formed
  short : WellFormed call.words → length call.reports < call.place + reports_long (steps_in call.steps) → RowGiven call no_room
