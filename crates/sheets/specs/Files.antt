-- WHAT A SHEET OVER MANY FILES SAYS, claimed for every list of files: each count is the number of such replies in the runs of the files
-- that were not refused; a refused file adds nothing; nothing wraps; and what was begun is committed, aborted or still open.
use Rattle.std.specs.Prelude.{ℕ, ◌+◌, ◌^◌, ◌≤◌, ◌<◌, ◌≡◌, List, [], ◌∷◌, length, if◌then◌else◌}
use Rattle.std.proofs.Math.Option.{Option, none, some}
use Rattle.rules.specs.steps.Replies.{Refusal}
use Rattle.rules.specs.steps.Register.{has_open}
use Rattle.layout.specs.Rows.{row}
use Rattle.runs.specs.ByRules.{Played, ran, run_of}
use Rattle.counts.specs.Counting.{column, begun, committed, torn, overtaken, spent, gave_up}
use Rattle.sheets.specs.Sheets.{count_in, lines_of, sheet_long, columns, counted, add_refusal, AddCall, adding}

-- Adding a file to a sheet.
abbrev pub call : List ℕ → List ℕ → AddCall
call words file = record { words = words; file = file }

-- The sheet after one file and another.
unfoldable pub after_files : List ℕ → List (List ℕ) → List ℕ
after_files words [] = words
after_files words (file ∷ files) = after_files (adding (call words file)).leaves files

-- A run in front of others, unless its file was refused.
abbrev pub unless_refused : Option Refusal → Played → List Played → List Played
unless_refused none run runs = run ∷ runs
unless_refused (some refusal) run runs = runs

-- The runs of the files that were not refused, each in its turn.
unfoldable pub runs_of : List ℕ → List (List ℕ) → List Played
runs_of words [] = []
runs_of words (file ∷ files) =
    unless_refused (add_refusal words file) (run_of file) (runs_of (adding (call words file)).leaves files)

-- A number of each run, all together.
unfoldable pub total : (Played → ℕ) → List Played → ℕ
total number [] = 0
total number (run ∷ runs) = number run + total number runs

-- The replies in a run that raise a handler's count in a column.
abbrev pub replies : ℕ → ℕ → Played → ℕ
replies handler k run = count_in handler k (lines_of run)

-- 1 where the handler has a transaction open at a run's end.
abbrev pub open_at_end : ℕ → Played → ℕ
open_at_end handler (ran n m run) = if has_open (run.register.handlers handler) then 1 else 0
open_at_end handler (Played.refused refusal) = 0

-- A sheet with no counts.
abbrev pub empty_sheet : List ℕ
empty_sheet = row sheet_long (λ _. 0)

-- EACH COUNT IS THE NUMBER OF SUCH REPLIES in the runs of all files that were not refused, on top of what the sheet had.
abbrev pub CountsReplies : Type 0
CountsReplies = (words : List ℕ) (files : List (List ℕ)) (handler k : ℕ) → sheet_long ≤ length words → handler < 16 → k < columns
    → counted (after_files words files) handler k ≡ counted words handler k + total (replies handler k) (runs_of words files)

-- A REFUSED FILE ADDS NOTHING.
abbrev pub RefusedAddsNothing : Type 0
RefusedAddsNothing = (words file : List ℕ) (refusal : Refusal) → add_refusal words file ≡ some refusal
    → (adding (call words file)).leaves ≡ words

-- BEGUN BALANCES: from an empty sheet, for every list of files and every handler, what was begun was committed, was aborted, or was open
-- at a run's end.
abbrev pub BegunBalances : Type 0
BegunBalances = (files : List (List ℕ)) (handler : ℕ) → handler < 16
    → let sheet = after_files empty_sheet files in
    let count : ℕ → ℕ = λ k. counted sheet handler k in
    count (column begun)
    ≡ count (column committed) + (count (column torn) + (count (column overtaken) + (count (column spent) + count (column gave_up))))
    + total (open_at_end handler) (runs_of empty_sheet files)

-- NOTHING WRAPS: a file that is not refused leaves each count below 2^32.
abbrev pub NothingWraps : Type 0
NothingWraps = (words file : List ℕ) (handler k : ℕ) → add_refusal words file ≡ none → handler < 16 → k < columns
    → counted (adding (call words file)).leaves handler k < 2 ^ 32
