-- THE DUTY SHEET: for each of 16 handlers a row of counts, kept in words that the caller lends. What the lines of a run add to it, when
-- a file is refused, and what adding a file comes to, for all words and all files.
use Rattle.std.specs.Prelude.{ℕ, ◌+◌, ◌*◌, Bool, ◌&&◌, List, [], ◌∷◌, ◌++◌, length, get_or, drop, eqb, ltb, if◌then◌else◌}
use Rattle.std.proofs.Math.Option.{Option, none, some}
use Rattle.rules.specs.Promise.{Due, Promise}
use Rattle.rules.specs.steps.Tables.{some_below}
use Rattle.rules.specs.steps.Replies.{Refusal, too_short, sheet_full, Reply}
use Rattle.rules.specs.steps.Checks.{Check, ◌when◌, first_hit}
use Rattle.layout.specs.Rows.{row, rows}
use Rattle.lines.specs.Lines.{Line}
use Rattle.schedule.specs.Admitting.{file_checks}
use Rattle.runs.specs.ByRules.{Played, ran, run_of}
use Rattle.counts.specs.Counting.{Count, raised, is_in}

-- ── What lines add ────────────────────────────────────────────────────

-- The count that a line raises; one where no step was taken raises none.
abbrev pub raised_for : Option ℕ → Reply ℕ → Option Count
raised_for none reply = none
raised_for (some code) reply = raised code reply

-- A line is the handler's, and raises the count in this column.
abbrev pub raises : ℕ → ℕ → Line → Bool
raises handler k line = eqb line.handler handler && is_in k (raised_for line.code line.reply)

-- How many lines do.
unfoldable pub count_in : ℕ → ℕ → List Line → ℕ
count_in handler k [] = 0
count_in handler k (line ∷ lines) = (if raises handler k line then 1 else 0) + count_in handler k lines

-- The lines of what a file came to; a refused file has none.
abbrev pub lines_of : Played → List Line
lines_of (ran n m run) = run.lines
lines_of (Played.refused refusal) = []

-- ── The sheet's words ─────────────────────────────────────────────────

-- The counts of a handler.
abbrev pub columns : ℕ
columns = 6

-- The words of a sheet: a row for each of 16 handlers, however many a file has.
abbrev pub sheet_long : ℕ
sheet_long = 96

-- Where a handler's count in a column stands.
abbrev pub count_at : ℕ → ℕ → ℕ
count_at handler k = handler * columns + k

-- That count.
abbrev pub counted : List ℕ → ℕ → ℕ → ℕ
counted words handler k = get_or words (count_at handler k) 0

-- The sheet with what some lines add to it, and the words behind it as they were.
unfoldable pub with_lines : List ℕ → List Line → List ℕ
with_lines words lines =
    rows 16 (λ handler. row columns (λ k. counted words handler k + count_in handler k lines)) ++ drop sheet_long words

-- A count above which a sheet takes no file.
abbrev pub full_above : ℕ
full_above = 4294000000

-- Some count of the sheet is above it.
unfoldable pub is_full : List ℕ → Bool
is_full words = some_below sheet_long (λ place. ltb full_above (get_or words place 0))

-- ── Adding a file ─────────────────────────────────────────────────────

-- The order of refusals: 21 where the words are too few for a sheet, the file's 30 and 15, then 41.
unfoldable pub add_checks : List ℕ → List ℕ → List (Check Refusal)
add_checks words file = (too_short when ltb (length words) sheet_long) ∷ (file_checks file ++ ((sheet_full when is_full words) ∷ []))

-- What is said of a file before its first step.
unfoldable pub add_refusal : List ℕ → List ℕ → Option Refusal
add_refusal words file = first_hit (add_checks words file)

-- What adding a file is given: the sheet's words, and the file.
pub record AddCall : Type 0 where
  pub words : List ℕ
  pub file : List ℕ

-- A refused file adds nothing; any other adds the lines of its run.
unfoldable pub added_by : AddCall → Option Refusal → Due (Option Refusal) (List ℕ)
added_by call (some refusal) = record { reply = some refusal; leaves = call.words }
added_by call none = record { reply = none; leaves = with_lines call.words (lines_of (run_of call.file)) }

-- What adding a file comes to: the refusal, if there is one, and the sheet's words.
unfoldable pub adding : AddCall → Due (Option Refusal) (List ℕ)
adding call = added_by call (add_refusal call.words call.file)

-- THE PROMISE OF ADDING A FILE TO A SHEET.
abbrev pub AddPromise : List ℕ → List ℕ → Option Refusal → List ℕ → Type 0
AddPromise words file reply after = Promise adding (record { words = words; file = file }) reply after
