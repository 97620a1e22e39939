-- WHAT A DUTY SHEET COUNTS of a handler: its transactions begun, committed, and aborted by each reason; and which reply raises which
-- count. A reason added later is one line of each table here, and one field of the code's `Counts`.
use Rattle.std.specs.Prelude.{ℕ, Bool, false, eqb, if◌then◌else◌}
use Rattle.std.proofs.Math.Option.{Option, none, some}
use Rattle.rules.specs.steps.Codes.{Kind, plain_sheet}
use Rattle.rules.specs.steps.Checks.{is_begin}
use Rattle.rules.specs.steps.Replies as Rules
use Rattle.rules.specs.steps.Replies.{Outcome, ok, shows, aborted, Reply, reported}

-- The counts of a handler.
pub data Count : Type 0 where
  begun committed torn overtaken spent gave_up : Count

-- The column of a count: where it stands in a handler's row.
abbrev pub column : Count → ℕ
column begun = 0
column committed = 1
column torn = 2
column overtaken = 3
column spent = 4
column gave_up = 5

-- THE TABLE: the count that a step of some kind raises by what it came to, if it raises one.
unfoldable pub raised_by : Kind → Outcome ℕ → Option Count
raised_by kind ok = if is_begin kind then (some begun) else none
raised_by kind (shows content) = none
raised_by kind Rules.committed = some committed
raised_by kind (aborted (Rules.torn y)) = some torn
raised_by kind (aborted (Rules.overtaken z)) = some overtaken
raised_by kind (aborted (Rules.spent z)) = some spent
raised_by kind (aborted Rules.gave_up) = some gave_up

-- The count that the reply to a step code raises; a refused step raises none.
unfoldable pub raised : ℕ → Reply ℕ → Option Count
raised code (reported report) = raised_by (plain_sheet code) report.outcome
raised code (Reply.refused refusal) = none

-- The count that is raised stands in this column.
unfoldable pub is_in : ℕ → Option Count → Bool
is_in k none = false
is_in k (some count) = eqb (column count) k

-- What a reply adds to the count in a column.
abbrev pub adds : Option Count → ℕ → ℕ
adds count k = if is_in k count then 1 else 0
