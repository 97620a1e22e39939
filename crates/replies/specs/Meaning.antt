-- What each reply of this crate is in the rules: a definition for each kind of answer, case by case. Numbers and values come from
-- the rules.
use Rattle.std.specs.Prelude.{ℕ, Option, None, Some, Result, Ok, Err}
use Rattle.rules.specs.steps.Replies as Rules
use Rattle.replies.specs.declared.Reason.{Reason}
use Rattle.replies.specs.declared.Reason.TheVariants.{Torn, Overtaken, Spent, GaveUp}
use Rattle.replies.specs.declared.Outcome.{Outcome}
use Rattle.replies.specs.declared.Outcome.TheVariants.{Done, Shows, Committed, Aborted}
use Rattle.replies.specs.declared.Refusal.{Refusal}
use Rattle.replies.specs.declared.Refusal.TheVariants.{NotWellFormed, NoHandler, NoCell, AlreadyOpen, NotOpen, UnknownStep}
use Rattle.replies.specs.declared.Refusal.TheVariants.{OutOfRange, TooShort, BadFile, UsedUp, TooManyCommits, SheetFull, NoRoom}
use Rattle.replies.specs.declared.Report.{Report}
use Rattle.replies.specs.declared.Numbers.{Numbers}

-- The rules' reason.
abbrev pub reason_is : Reason → Rules.Reason
reason_is (Torn y) = Rules.torn y
reason_is (Overtaken z) = Rules.overtaken z
reason_is (Spent z) = Rules.spent z
reason_is GaveUp = Rules.gave_up

-- The rules' content.
abbrev pub content_is : Option ℕ → Rules.Content ℕ
content_is None = Rules.unset
content_is (Some v) = Rules.value v

-- The rules' outcome.
abbrev pub outcome_is : Outcome → Rules.Outcome ℕ
outcome_is Done = Rules.ok
outcome_is (Shows content) = Rules.shows (content_is content)
outcome_is Committed = Rules.committed
outcome_is (Aborted reason) = Rules.aborted (reason_is reason)

-- The rules' refusal.
abbrev pub refusal_is : Refusal → Rules.Refusal
refusal_is NotWellFormed = Rules.not_well_formed
refusal_is NoHandler = Rules.no_handler
refusal_is NoCell = Rules.no_cell
refusal_is AlreadyOpen = Rules.already_open
refusal_is NotOpen = Rules.not_open
refusal_is UnknownStep = Rules.unknown_step
refusal_is OutOfRange = Rules.out_of_range
refusal_is TooShort = Rules.too_short
refusal_is BadFile = Rules.bad_file
refusal_is UsedUp = Rules.used_up
refusal_is TooManyCommits = Rules.too_many_commits
refusal_is SheetFull = Rules.sheet_full
refusal_is NoRoom = Rules.no_room

-- The rules' reply to a step.
abbrev pub reply_is : Result Report Refusal → Rules.Reply ℕ
reply_is (Ok report) = Rules.reported (record { handler = report.handler; code = report.code; outcome = outcome_is report.outcome })
reply_is (Err refusal) = Rules.Reply.refused (refusal_is refusal)

-- The rules' reply to an opening.
abbrev pub opening_is : Result Unit Refusal → Rules.Opening
opening_is (Ok tt) = Rules.ready
opening_is (Err refusal) = Rules.Opening.refused (refusal_is refusal)

-- The rules' numbers of an answer.
abbrev pub numbers_are : Numbers → Rules.Numbers
numbers_are numbers = record { kind = numbers.kind; detail = numbers.detail; cell = numbers.cell }
