-- The small sheet is computed: its text is what is written out, byte for byte; and so are the lines of two files.
use mathlib.Core.Path.{◌≡◌, refl}
use mathlib.Core.List.{[], ◌∷◌}
use mathlib.Core.Option.{none, some}
use Rattle.rules.specs.steps.Replies.{bad_file}
use Rattle.text.specs.Bytes.{ascii, written, spelled, in_turn}
use Rattle.summary.specs.Texts.{row_text, sheet_text, added_text}
use Rattle.summary.specs.Listing.{small_sheet, small_text}

-- The text of the small sheet,
pub small_printed : sheet_text small_sheet ≡ small_text
unfolding written in_turn row_text spelled small_text
small_printed = refl

-- the line of a file that is counted, and of one that is refused.
pub counted_printed : added_text (ascii "week.bin") none ≡ written ("week.bin ok" ∷ [])
unfolding written
counted_printed = refl

pub refused_printed : added_text (ascii "week.bin") (some bad_file) ≡ written ("week.bin refused 30" ∷ [])
unfolding written spelled
refused_printed = refl
