-- The bytes of everything that is printed of a run: its header, its lines, its cells, and a refused file's one line.
use Rattle.std.specs.Prelude.{ℕ, List, [], ◌∷◌, ◌++◌}
use Rattle.std.proofs.Math.Option.{Option, none, some}
use Rattle.rules.specs.steps.Replies.{Reason, Content, unset, value, Outcome, ok, shows, committed, aborted, Refusal, Reply, reported}
use Rattle.rules.specs.steps.Replies.{reason_number, reason_cell, refusal_number}
use Rattle.replies.specs.Ends.{CellLine}
use Rattle.text.specs.Bytes.{ascii, newline, decimal}
use Rattle.lines.specs.Lines.{Line}

-- What is shown of a cell: `unset` or `value V`.
abbrev pub content_text : Content ℕ → List ℕ
content_text unset = ascii "unset"
content_text (value v) = ascii "value " ++ decimal v

-- The cell that an abort names: ` cell C`, and nothing where it names none.
abbrev pub named_text : Option ℕ → List ℕ
named_text none = []
named_text (some y) = ascii " cell " ++ decimal y

-- An abort: `abort R cell C`, or `abort R` where it names no cell.
abbrev pub abort_text : Reason → List ℕ
abort_text reason = ascii "abort " ++ decimal (reason_number reason) ++ named_text (reason_cell reason)

-- What a step came to: `ok`, what a read shows, `commit`, or an abort.
abbrev pub outcome_text : Outcome ℕ → List ℕ
outcome_text ok = ascii "ok"
outcome_text (shows content) = content_text content
outcome_text committed = ascii "commit"
outcome_text (aborted reason) = abort_text reason

-- A refusal: `refused N`.
abbrev pub refusal_text : Refusal → List ℕ
refusal_text refusal = ascii "refused " ++ decimal (refusal_number refusal)

-- The reply to a step: what it came to, or the refusal.
abbrev pub reply_text : Reply ℕ → List ℕ
reply_text (reported report) = outcome_text report.outcome
reply_text (Reply.refused refusal) = refusal_text refusal

-- The step code, or `-` where none was taken.
abbrev pub code_text : Option ℕ → List ℕ
code_text (some code) = decimal code
code_text none = ascii "-"

-- The front of a line: place and handler.
unfoldable pub front_text : ℕ → ℕ → List ℕ
front_text place handler = decimal place ++ ascii " " ++ decimal handler ++ ascii " "

-- A line: place, handler, step code or `-`, and the reply.
unfoldable pub line_text : Line → List ℕ
line_text line = front_text line.place line.handler ++ code_text line.code ++ ascii " " ++ reply_text line.reply ++ newline

-- The text of a place: its line, if it shows one.
abbrev pub place_text : Option Line → List ℕ
place_text none = []
place_text (some line) = line_text line

-- Lines, one after another.
unfoldable pub lines_text : List Line → List ℕ
lines_text [] = []
lines_text (line ∷ lines) = line_text line ++ lines_text lines

-- The header: how many handlers and cells there are.
unfoldable pub header_text : ℕ → ℕ → List ℕ
header_text n m = ascii "handlers " ++ decimal n ++ ascii " cells " ++ decimal m ++ newline

-- A cell at the end: what it holds, and its own number.
unfoldable pub cell_text : ℕ → CellLine → List ℕ
cell_text c cell = ascii "cell " ++ decimal c ++ ascii " " ++ content_text cell.content ++ ascii " number " ++ decimal cell.number ++ newline

-- The text of a cell, if there is one.
abbrev pub end_text : ℕ → Option CellLine → List ℕ
end_text c none = []
end_text c (some cell) = cell_text c cell

-- The one line of a refused file.
unfoldable pub refused_text : Refusal → List ℕ
refused_text refusal = refusal_text refusal ++ newline
