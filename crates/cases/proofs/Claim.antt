-- K1 to K12 and K14: one claim over the one list of cases, which antt computes.
use mathlib.Core.Path.{◌≡◌, refl}
use mathlib.Core.List.{map}
use Rattle.rules.specs.steps.Tables.{put, or_else, lowest, some_below}
use Rattle.rules.specs.steps.Codes.{plain_sheet}
use Rattle.rules.specs.steps.Register.{with_handler, idle, blank, fresh}
use Rattle.rules.specs.steps.Checks.{first_hit, step_checks, in_range, opening_checks}
use Rattle.rules.specs.steps.Figure.{joined, taken, wrote, version_shows, shown, stamped, stored, begun, torn_cell, overtaken_cell, spent_cell}
use Rattle.rules.specs.steps.Figure.{aborting, committing, unless_aborted, read_checks, try_checks, first_read, reading, trying, step}
use Rattle.rules.specs.steps.Turn.{step_refusal, turned, turn}
use Rattle.rules.specs.demand.Cases.{cases}
use Rattle.layout.specs.Bits.{has_bit, mask}
use Rattle.layout.specs.Rows.{row, rows, below}
use Rattle.layout.specs.View.{view_cell, view_handler, view, pour_cell, pour_handler, pour}
use Rattle.layout.specs.WellFormed.{every_below, numbers_fit, is_good_block, is_good_body, is_well_formed}
use Rattle.promises.specs.Opening.{opening_refusal, opening_reply, opening_words}
use Rattle.promises.specs.Stepping.{turn_of, step_words}
use Rattle.cases.specs.Played.{opening_numbers, play_lines, play_from, made, join_rows, said_replies, said_counts, said_words, said}

-- The promises make of each case what it says: every reply, and every word at the end.
pub all_cases : map made cases ≡ map said cases
unfolding made said play_from play_lines opening_numbers said_replies said_counts said_words join_rows cases
    opening_refusal opening_reply opening_words turn_of step_words
    every_below numbers_fit is_good_block is_good_body is_well_formed view_cell view_handler view pour_cell pour_handler pour
    has_bit mask row rows below put or_else lowest some_below plain_sheet
    with_handler idle blank fresh first_hit step_checks in_range opening_checks
    joined taken wrote version_shows shown stamped stored begun torn_cell overtaken_cell spent_cell aborting committing
    unless_aborted read_checks try_checks first_read reading trying step step_refusal turned turn
all_cases = refl
