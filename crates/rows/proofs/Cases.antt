-- Rows that an edit of one operand does not make wrong, computed by the definitions: a refused step in the middle is reported and the next
-- one is taken, a step cut short is none, words that are no register are refused before the first step, 42 to the word, and reads that
-- are unset.
use Prim.Native.Nat.{ℕ}
use mathlib.Core.Path.{◌≡◌, refl}
use mathlib.Core.List.{List, [], ◌∷◌}
use mathlib.Core.Option.{none, some}
use lib.ListN.{replicate}
use Rattle.rules.specs.steps.Tables.{put, or_else, lowest, some_below}
use Rattle.rules.specs.steps.Codes.{plain_sheet}
use Rattle.rules.specs.steps.Replies.{not_well_formed, no_room}
use Rattle.rules.specs.steps.Register.{with_handler, idle}
use Rattle.rules.specs.steps.Checks.{first_hit, step_checks, in_range}
use Rattle.rules.specs.steps.Figure.{joined, taken, wrote, version_shows, shown, stamped, stored, begun, torn_cell, overtaken_cell, spent_cell}
use Rattle.rules.specs.steps.Figure.{aborting, committing, unless_aborted, read_checks, try_checks, first_read, reading, trying, step}
use Rattle.rules.specs.steps.Turn.{step_refusal, turned, turn}
use Rattle.layout.specs.Bits.{has_bit, mask}
use Rattle.layout.specs.Rows.{row, rows, below}
use Rattle.layout.specs.View.{view_cell, view_handler, view, pour_cell, pour_handler, pour}
use Rattle.layout.specs.WellFormed.{every_below, numbers_fit, is_good_block, is_good_body, is_well_formed}
use Rattle.promises.specs.Stepping.{turn_of, step_words}
use Rattle.rows.specs.Rows.{steps_in, words_after, reports_of, RowCall, row_checks, rowed_by, rowing}

-- A register of one cell and one handler, in a phase.
abbrev in_phase : ℕ → List ℕ
in_phase phase = 1 ∷ 1 ∷ 0 ∷ 0 ∷ phase ∷ 0 ∷ 0 ∷ 0 ∷ 0 ∷ 0 ∷ []

-- Begin, begin again, try, and two words of a fourth step; the first report goes to place 1 of so many words.
abbrev three_steps : ℕ → List ℕ → RowCall
three_steps phase reports = record {
  words = in_phase phase;
  steps = 0 ∷ 0 ∷ 0 ∷ 0 ∷ 0 ∷ 0 ∷ 0 ∷ 1 ∷ 0 ∷ 0 ∷ 0 ∷ [];
  reports = reports;
  place = 1;
}

-- Words for reports, before the row: one in front, fifteen, and one behind.
abbrev seventeen : List ℕ
seventeen = replicate 17 9

-- The second begin is refused with 13 and reported so, and the try behind it commits. The cut fourth step is not reported.
pub goes_on : rowing (three_steps 0 seventeen) ≡ record {
  reply = none;
  leaves = record { words = in_phase 0; reports = 9 ∷ 0 ∷ 0 ∷ 0 ∷ 0 ∷ 0 ∷ 0 ∷ 0 ∷ 4 ∷ 13 ∷ 0 ∷ 0 ∷ 1 ∷ 2 ∷ 0 ∷ 0 ∷ 9 ∷ [] };
}
unfolding rowing rowed_by row_checks steps_in words_after reports_of turn_of step_words
    every_below numbers_fit is_good_block is_good_body is_well_formed view_cell view_handler view pour_cell pour_handler pour
    has_bit mask row rows below put or_else lowest some_below plain_sheet with_handler idle first_hit step_checks in_range
    stamped stored begun overtaken_cell spent_cell aborting committing unless_aborted try_checks trying step step_refusal turned turn
goes_on = refl

-- A phase of 2 is no register's: 10, and no step is taken or reported.
pub malformed_first : rowing (three_steps 2 seventeen) ≡ record
    { reply = some not_well_formed; leaves = record { words = in_phase 2; reports = seventeen } }
unfolding rowing rowed_by row_checks steps_in first_hit every_below numbers_fit is_good_block is_good_body is_well_formed has_bit mask
    lowest or_else some_below in_range
malformed_first = refl

-- Sixteen words are just enough from place 1 on,
pub just_enough : (rowing (three_steps 0 (replicate 16 9))).reply ≡ none
unfolding rowing rowed_by row_checks steps_in first_hit every_below numbers_fit is_good_block is_good_body is_well_formed has_bit mask
    lowest or_else some_below in_range
just_enough = refl

-- and fifteen are one too few: 42, and no step is taken or reported.
pub one_too_few : rowing (three_steps 0 (replicate 15 9)) ≡ record {
  reply = some no_room;
  leaves = record { words = in_phase 0; reports = replicate 15 9 };
}
unfolding rowing rowed_by row_checks steps_in first_hit every_below numbers_fit is_good_block is_good_body is_well_formed has_bit mask
    lowest or_else some_below in_range
one_too_few = refl

-- Begin, two reads of a cell that was never written, a write of 0 and a read of it.
abbrev readings : RowCall
readings = record {
  words = in_phase 0;
  steps = 0 ∷ 0 ∷ 0 ∷ 0 ∷ 32 ∷ 0 ∷ 0 ∷ 32 ∷ 0 ∷ 0 ∷ 64 ∷ 0 ∷ 0 ∷ 32 ∷ 0 ∷ [];
  reports = replicate 25 9;
  place = 0;
}

-- Both reads are unset, which is kind 5; what it wrote itself is the value 0, which is kind 1.
pub unset_reported : (rowing readings).leaves.reports
    ≡ 0 ∷ 0 ∷ 0 ∷ 0 ∷ 0 ∷ 0 ∷ 32 ∷ 5 ∷ 0 ∷ 0 ∷ 0 ∷ 32 ∷ 5 ∷ 0 ∷ 0 ∷ 0 ∷ 64 ∷ 0 ∷ 0 ∷ 0 ∷ 0 ∷ 32 ∷ 1 ∷ 0 ∷ 0 ∷ []
unfolding rowing rowed_by row_checks steps_in words_after reports_of turn_of step_words
    every_below numbers_fit is_good_block is_good_body is_well_formed view_cell view_handler view pour_cell pour_handler pour
    has_bit mask row rows below put or_else lowest some_below plain_sheet with_handler idle first_hit step_checks in_range
    joined taken wrote version_shows shown begun torn_cell unless_aborted read_checks first_read reading step step_refusal turned turn
unset_reported = refl

-- A try by a handler that has read cell 1 of two at another number than its own.
abbrev overtaken_try : RowCall
overtaken_try = record {
  words = 2 ∷ 1 ∷ 0 ∷ 0 ∷ 0 ∷ 0 ∷ 0 ∷ 3 ∷ 1 ∷ 2 ∷ 0 ∷ 0 ∷ 0 ∷ 0 ∷ 0 ∷ 0 ∷ 0 ∷ [];
  steps = 0 ∷ 1 ∷ 0 ∷ [];
  reports = replicate 5 9;
  place = 0;
}

-- It is reported as kind 3, abort 2, and in the last word cell 1.
pub cell_reported : (rowing overtaken_try).leaves.reports ≡ 0 ∷ 1 ∷ 3 ∷ 2 ∷ 1 ∷ []
unfolding rowing rowed_by row_checks steps_in words_after reports_of turn_of step_words
    every_below numbers_fit is_good_block is_good_body is_well_formed view_cell view_handler view pour_cell pour_handler pour
    has_bit mask row rows below put or_else lowest some_below plain_sheet with_handler idle first_hit step_checks in_range
    begun overtaken_cell spent_cell aborting unless_aborted try_checks trying step step_refusal turned turn
cell_reported = refl
