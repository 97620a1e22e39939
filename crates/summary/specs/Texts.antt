-- The bytes of everything that is printed of a duty sheet: a line of counts for each handler, and the line of each file that is added.
use Rattle.std.specs.Prelude.{ℕ, List, ◌++◌}
use Prim.Native.String.{String}
use Rattle.std.proofs.Math.Option.{Option, none, some}
use Rattle.rules.specs.steps.Replies.{Refusal, refusal_number}
use Rattle.limits.specs.Limits.{most_handlers}
use Rattle.text.specs.Bytes.{ascii, newline, decimal, in_turn}
use Rattle.counts.specs.Counting.{column, begun, committed, torn, overtaken, spent, gave_up}
use Rattle.sheets.specs.Sheets.{counted}

-- A word and a number behind it.
abbrev pub named : String → ℕ → List ℕ
named word number = ascii word ++ decimal number

-- ── A sheet ───────────────────────────────────────────────────────────

-- The line of a handler: its number, and each of its counts.
unfoldable pub row_text : ℕ → (ℕ → ℕ) → List ℕ
row_text handler count =
    named "handler " handler
    ++ named " begun " (count (column begun))
    ++ named " committed " (count (column committed))
    ++ named " abort1 " (count (column torn))
    ++ named " abort2 " (count (column overtaken))
    ++ named " abort3 " (count (column spent))
    ++ named " abort5 " (count (column gave_up))
    ++ newline

-- The lines of a sheet, one after another. Words that are missing count as 0.
abbrev pub sheet_text : List ℕ → List ℕ
sheet_text words = in_turn most_handlers (λ handler. row_text handler (counted words handler))

-- The longest line of a handler, in bytes: 59 letters, and seven numbers.
abbrev pub longest_row : ℕ
longest_row = 129

-- The most bytes of a sheet's 16 lines.
abbrev pub most_summary : ℕ
most_summary = 2064

-- ── A file that is added ──────────────────────────────────────────────

-- What came of a file: it was counted, or it was refused with a number.
abbrev pub verdict_text : Option Refusal → List ℕ
verdict_text none = ascii " ok"
verdict_text (some refusal) = named " refused " (refusal_number refusal)

-- The line of a file.
abbrev pub added_text : List ℕ → Option Refusal → List ℕ
added_text name refused = name ++ verdict_text refused ++ newline

-- The longest name of a file that our program takes, in bytes.
abbrev pub longest_name : ℕ
longest_name = 4096

-- The longest that is said of a file behind its name, in bytes.
abbrev pub longest_verdict : ℕ
longest_verdict = 19
