-- When adding a file is refused with each number, in words of its own: 21 where the words are too few for a sheet; the file's 30 and 15
-- where they are enough; 41 where the file is good and some count of the sheet is above the bound.
use Rattle.std.specs.Prelude.{ℕ, ◌≤◌, ◌<◌, List, length, get_or}
use Rattle.rules.specs.steps.Replies.{Refusal, too_short, sheet_full}
use Rattle.schedule.specs.Admitting.{GoodFile, FileGiven}
use Rattle.sheets.specs.Sheets.{sheet_long, full_above}

-- When each number is given.
pub data AddGiven (words file : List ℕ) : Refusal → Type 0 where
  short : length words < sheet_long → AddGiven words file too_short
  bad : {refusal : Refusal} → sheet_long ≤ length words → FileGiven file refusal → AddGiven words file refusal
  full : (place : ℕ) → sheet_long ≤ length words → GoodFile file → place < sheet_long → full_above < get_or words place 0
      → AddGiven words file sheet_full
