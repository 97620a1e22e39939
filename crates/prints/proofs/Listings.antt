-- The listings are computed: the runner and the judge print each byte for byte.
use mathlib.Core.Path.{◌≡◌, refl}
use mathlib.Core.List.{map}
use Rattle.rules.specs.steps.Tables.{put, or_else, lowest, some_below}
use Rattle.rules.specs.steps.Codes.{plain_sheet}
use Rattle.rules.specs.steps.Register.{with_handler, idle, blank, fresh}
use Rattle.rules.specs.steps.Checks.{first_hit, step_checks, in_range}
use Rattle.rules.specs.steps.Figure.{joined, taken, wrote, version_shows, shown, stamped, stored, begun, torn_cell, overtaken_cell, spent_cell}
use Rattle.rules.specs.steps.Figure.{aborting, committing, unless_aborted, read_checks, try_checks, first_read, reading, trying, step}
use Rattle.rules.specs.steps.Turn.{step_refusal, turned, turn}
use Rattle.layout.specs.WellFormed.{every_below}
use Rattle.text.specs.Bytes.{written, spelled, in_turn}
use Rattle.lines.specs.Texts.{front_text, line_text, lines_text, header_text, cell_text, refused_text}
use Rattle.schedule.specs.Bytes.{short_at, long_at}
use Rattle.schedule.specs.Sound.{due_at, is_placed, is_sound_table, is_sound_file}
use Rattle.schedule.specs.Scripts.{steps_behind}
use Rattle.schedule.specs.Admitting.{file_checks, file_refusal, admitted, admission_of}
use Rattle.runs.specs.ByRules.{next_asked, ordered, run_from, started, played_by, run_of}
use Rattle.agreement.specs.Agreement.{cut_after, commits_among}
use Rattle.prints.specs.Printed.{played_text, printed, judged_text, judged_printed}
use Rattle.prints.specs.Listings.{published, given_up, calm, empty, unknown, unordered, listings}

-- The runner prints each listing,
pub listings_printed : map (λ l. printed l.file) listings ≡ map (λ l. l.text) listings
unfolding listings published given_up calm empty unknown unordered written
    played_text front_text line_text lines_text header_text cell_text refused_text in_turn spelled
    run_of played_by started run_from ordered next_asked admission_of admitted file_refusal file_checks
    steps_behind is_sound_file is_sound_table is_placed due_at short_at long_at every_below in_range
    put or_else lowest some_below plain_sheet with_handler idle blank fresh first_hit step_checks
    joined taken wrote version_shows shown stamped stored begun torn_cell overtaken_cell spent_cell aborting committing
    unless_aborted read_checks try_checks first_read reading trying step step_refusal turned turn
listings_printed = refl

-- and so does the judge.
pub listings_judged : map (λ l. judged_printed l.file) listings ≡ map (λ l. l.text) listings
unfolding listings published given_up calm empty unknown unordered written
    judged_text cut_after commits_among front_text line_text lines_text header_text cell_text refused_text in_turn spelled
    run_of played_by started run_from ordered next_asked admission_of admitted file_refusal file_checks
    steps_behind is_sound_file is_sound_table is_placed due_at short_at long_at every_below in_range
    put or_else lowest some_below plain_sheet with_handler idle blank fresh first_hit step_checks
    joined taken wrote version_shows shown stamped stored begun torn_cell overtaken_cell spent_cell aborting committing
    unless_aborted read_checks try_checks first_read reading trying step step_refusal turned turn
listings_judged = refl
