-- Replies: outcomes with their reasons, refusals, and docs/RULES.md's numbers for them. Nothing of a reply is lost in its
-- numbers (proofs/Numbers.antt).
use Rattle.std.specs.Prelude.{ℕ}
use Rattle.std.proofs.Math.Option.{Option, none, some}
use Rattle.rules.specs.steps.Tables.{place_of}

-- Why a transaction was aborted, and by which cell: the lowest that meets the condition.
pub data Reason : Type 0 where
  -- the value read depends on a later version of this cell, which was already read
  torn : ℕ → Reason
  -- this cell was read, and has been written since
  overtaken : ℕ → Reason
  -- this cell was written, and its number can't be raised
  spent : ℕ → Reason
  -- its handler gave it up, whatever the cells
  gave_up : Reason

-- What is shown of a cell: nothing where it was never written, and else its value.
pub data Content (W : Type 0) : Type 0 where
  unset : Content W
  value : W → Content W

-- What a step that is taken comes to.
pub data Outcome (W : Type 0) : Type 0 where
  ok : Outcome W
  shows : Content W → Outcome W
  committed : Outcome W
  aborted : Reason → Outcome W

-- A report names handler and step, and holds an outcome whose abort case holds its reason.
pub record Report (W : Type 0) : Type 0 where
  pub handler : ℕ
  pub code : ℕ
  pub outcome : Outcome W

-- Why a step, an opening, a schedule file or an order place is refused, why the judge stops, why a sheet takes no file, and why a row is
-- not begun.
pub data Refusal : Type 0 where
  not_well_formed no_handler no_cell already_open not_open unknown_step : Refusal
  out_of_range too_short : Refusal
  bad_file used_up : Refusal
  too_many_commits : Refusal
  sheet_full no_room : Refusal

-- The reply to a step: a report, or a refusal.
pub data Reply (W : Type 0) : Type 0 where
  reported : Report W → Reply W
  refused : Refusal → Reply W

-- The reply to an opening: ready, or a refusal.
pub data Opening : Type 0 where
  ready : Opening
  refused : Refusal → Opening

-- ── Numbers ───────────────────────────────────────────────────────────

-- The number of an abort's reason.
abbrev pub reason_number : Reason → ℕ
reason_number (torn y) = 1
reason_number (overtaken y) = 2
reason_number (spent y) = 3
reason_number gave_up = 5

-- The cell that an abort's reason names, if it names one.
abbrev pub reason_cell : Reason → Option ℕ
reason_cell (torn y) = some y
reason_cell (overtaken y) = some y
reason_cell (spent y) = some y
reason_cell gave_up = none

-- The number of a refusal.
abbrev pub refusal_number : Refusal → ℕ
refusal_number not_well_formed = 10
refusal_number no_handler = 11
refusal_number no_cell = 12
refusal_number already_open = 13
refusal_number not_open = 14
refusal_number unknown_step = 15
refusal_number out_of_range = 20
refusal_number too_short = 21
refusal_number bad_file = 30
refusal_number used_up = 32
refusal_number too_many_commits = 33
refusal_number sheet_full = 41
refusal_number no_room = 42

-- An answer in numbers: its kind (0 ok, 1 value, 2 commit, 3 abort, 4 refused, 5 unset), its value or number, and the cell that it names;
-- each 0 where there is none.
pub record Numbers : Type 0 where
  pub kind : ℕ
  pub detail : ℕ
  pub cell : ℕ

-- What is shown of a cell, in numbers.
abbrev pub content_numbers : Content ℕ → Numbers
content_numbers (value v) = record { kind = 1; detail = v; cell = 0 }
content_numbers unset = record { kind = 5; detail = 0; cell = 0 }

-- An outcome in numbers, where the values are numbers.
abbrev pub outcome_numbers : Outcome ℕ → Numbers
outcome_numbers ok = record { kind = 0; detail = 0; cell = 0 }
outcome_numbers (shows content) = content_numbers content
outcome_numbers committed = record { kind = 2; detail = 0; cell = 0 }
outcome_numbers (aborted reason) = record { kind = 3; detail = reason_number reason; cell = place_of (reason_cell reason) }

-- A refusal in numbers.
abbrev pub refusal_numbers : Refusal → Numbers
refusal_numbers refusal = record { kind = 4; detail = refusal_number refusal; cell = 0 }

-- A reply in numbers.
abbrev pub reply_numbers : Reply ℕ → Numbers
reply_numbers (reported report) = outcome_numbers report.outcome
reply_numbers (refused refusal) = refusal_numbers refusal
