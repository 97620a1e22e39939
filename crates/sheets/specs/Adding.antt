-- For internal contracts alone: what our own functions are called with and leave. Nothing here need be believed.
-- A sheet whose counts leave room, the counts of a row as the code holds them, and a sheet with the line that a place shows.
use Rattle.std.specs.Prelude.{ℕ, ◌+◌, ◌≤◌, ◌<◌, ◌≡◌, List, [], length, get_or}
use Rattle.lines.specs.declared.Shown.{Shown}
use Rattle.lines.specs.Lines.{line_is}
use Rattle.runs.specs.ByPlaces.{in_front}
use Rattle.counts.specs.declared.Counts.{Counts}
use Rattle.counts.specs.Rows.{in_column}
use Rattle.sheets.specs.Sheets.{sheet_long, columns, counted, with_lines}

-- The words are enough for a sheet, and each of its counts is at most so much.
pub record CountsTo (most : ℕ) (words : List ℕ) : Type 0 where
  pub long : sheet_long ≤ length words
  pub each : (handler k : ℕ) → handler < 16 → k < columns → counted words handler k ≤ most

-- The most that a count can be and still be raised.
abbrev pub most_raised : ℕ
most_raised = 4294967294

-- The counts are those that the words hold from a place on.
pub record ReadAt (at : ℕ) (words : List ℕ) (counts : Counts) : Type 0 where
  pub holds : (k : ℕ) → k < columns → in_column counts k ≡ get_or words (at + k) 0

-- The sheet with the line that a place shows, wherever the place, if it shows one.
pub record WithShown (shown : Shown) (words after : List ℕ) : Type 0 where
  pub adds : (place : ℕ) → after ≡ with_lines words (in_front (line_is place shown) [])
