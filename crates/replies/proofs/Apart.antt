-- Nothing is lost in what a reply means, nor in what is shown of a cell: different answers are different replies of the rules, and
-- different ends different lines. Each meaning can be read back.
use Rattle.std.proofs.Common.{ℕ, ◌≡◌, refl, ap, Option, None, Some, Result, Ok, Err}
use Rattle.std.proofs.Math.Option as Math
use Rattle.rules.specs.steps.Replies as Rules
use Rattle.rules.proofs.Determined.{Determined, determined}
use Rattle.rules.proofs.steps.Numbers.{Injective, read_back}
use Rattle.replies.specs.declared.Reason.{Reason}
use Rattle.replies.specs.declared.Reason.TheVariants.{Torn, Overtaken, Spent, GaveUp}
use Rattle.replies.specs.declared.Outcome.{Outcome}
use Rattle.replies.specs.declared.Outcome.TheVariants.{Done, Shows, Committed, Aborted}
use Rattle.replies.specs.declared.Refusal.{Refusal}
use Rattle.replies.specs.declared.Refusal.TheVariants.{NotWellFormed, NoHandler, NoCell, AlreadyOpen, NotOpen, UnknownStep}
use Rattle.replies.specs.declared.Refusal.TheVariants.{OutOfRange, TooShort, BadFile, UsedUp, TooManyCommits, SheetFull, NoRoom}
use Rattle.replies.specs.declared.Report.{Report}
use Rattle.replies.specs.declared.CellEnd.{CellEnd}
use Rattle.replies.specs.Meaning.{reason_is, content_is, outcome_is, refusal_is, reply_is, opening_is}
use Rattle.replies.specs.Ends.{CellLine, end_is}

-- ── Reading back ──────────────────────────────────────────────────────

reason_back : Rules.Reason → Reason
reason_back (Rules.torn y) = Torn y
reason_back (Rules.overtaken z) = Overtaken z
reason_back (Rules.spent z) = Spent z
reason_back Rules.gave_up = GaveUp

content_back : Rules.Content ℕ → Option ℕ
content_back Rules.unset = None
content_back (Rules.value v) = Some v

outcome_back : Rules.Outcome ℕ → Outcome
outcome_back Rules.ok = Done
outcome_back (Rules.shows content) = Shows (content_back content)
outcome_back Rules.committed = Committed
outcome_back (Rules.aborted reason) = Aborted (reason_back reason)

pub refusal_back : Rules.Refusal → Refusal
refusal_back Rules.not_well_formed = NotWellFormed
refusal_back Rules.no_handler = NoHandler
refusal_back Rules.no_cell = NoCell
refusal_back Rules.already_open = AlreadyOpen
refusal_back Rules.not_open = NotOpen
refusal_back Rules.unknown_step = UnknownStep
refusal_back Rules.out_of_range = OutOfRange
refusal_back Rules.too_short = TooShort
refusal_back Rules.bad_file = BadFile
refusal_back Rules.used_up = UsedUp
refusal_back Rules.too_many_commits = TooManyCommits
refusal_back Rules.sheet_full = SheetFull
refusal_back Rules.no_room = NoRoom

pub answer_back : Rules.Reply ℕ → Result Report Refusal
answer_back (Rules.reported report) = Ok (record { handler = report.handler; code = report.code; outcome = outcome_back report.outcome })
answer_back (Rules.Reply.refused refusal) = Err (refusal_back refusal)

opened_back : Rules.Opening → Result Unit Refusal
opened_back Rules.ready = Ok tt
opened_back (Rules.Opening.refused refusal) = Err (refusal_back refusal)

end_back : Math.Option CellLine → Option CellEnd
end_back (Math.some line) = Some (record { content = content_back line.content; number = line.number })
end_back Math.none = None

-- ── What is read back is what was said ────────────────────────────────

reason_same : (reason : Reason) → reason_back (reason_is reason) ≡ reason
unfolding reason_back
reason_same (Torn y) = refl
reason_same (Overtaken z) = refl
reason_same (Spent z) = refl
reason_same GaveUp = refl

content_same : (content : Option ℕ) → content_back (content_is content) ≡ content
unfolding content_back
content_same None = refl
content_same (Some v) = refl

outcome_same : (outcome : Outcome) → outcome_back (outcome_is outcome) ≡ outcome
unfolding outcome_back
outcome_same Done = refl
outcome_same (Shows content) = ap Shows (content_same content)
outcome_same Committed = refl
outcome_same (Aborted reason) = ap Aborted (reason_same reason)

pub refusal_same : (refusal : Refusal) → refusal_back (refusal_is refusal) ≡ refusal
unfolding refusal_back
refusal_same NotWellFormed = refl
refusal_same NoHandler = refl
refusal_same NoCell = refl
refusal_same AlreadyOpen = refl
refusal_same NotOpen = refl
refusal_same UnknownStep = refl
refusal_same OutOfRange = refl
refusal_same TooShort = refl
refusal_same BadFile = refl
refusal_same UsedUp = refl
refusal_same TooManyCommits = refl
refusal_same SheetFull = refl
refusal_same NoRoom = refl

pub answer_same : (answer : Result Report Refusal) → answer_back (reply_is answer) ≡ answer
unfolding answer_back
answer_same (Ok report) = ap (λ o. Ok (record { handler = report.handler; code = report.code; outcome = o })) (outcome_same report.outcome)
answer_same (Err refusal) = ap Err (refusal_same refusal)

opened_same : (opened : Result Unit Refusal) → opened_back (opening_is opened) ≡ opened
unfolding opened_back
opened_same (Ok tt) = refl
opened_same (Err refusal) = ap Err (refusal_same refusal)

end_same : (end : Option CellEnd) → end_back (end_is end) ≡ end
unfolding end_back
end_same (Some end) = ap (λ shown. Some (record { content = shown; number = end.number })) (content_same end.content)
end_same None = refl

-- ── No two are the same ───────────────────────────────────────────────

-- Different contents differ in the rules.
pub contents_apart : Injective content_is
contents_apart = read_back content_is content_back content_same

-- Different outcomes differ in the rules.
pub outcomes_apart : Injective outcome_is
outcomes_apart = read_back outcome_is outcome_back outcome_same

-- Different answers to a step differ in the rules.
pub answers_apart : Injective reply_is
answers_apart = read_back reply_is answer_back answer_same

-- Different answers to an opening differ in the rules.
pub openings_apart : Injective opening_is
openings_apart = read_back opening_is opened_back opened_same

-- Different ends are different lines, or one is none.
pub ends_apart : Injective end_is
ends_apart = read_back end_is end_back end_same

-- ── One outcome ───────────────────────────────────────────────────────

-- Whatever answers a step, its promise allows one answer, and one thing left.
pub answer_determined : Determined reply_is
answer_determined = determined answers_apart

-- Whatever is opened, its promise allows one answer, and one thing left.
pub opened_determined : Determined opening_is
opened_determined = determined openings_apart

-- Whatever tells what a version shows, its promise allows one.
pub content_determined : Determined content_is
content_determined = determined contents_apart

-- Whatever shows a cell's end, its promise allows one.
pub end_determined : Determined end_is
end_determined = determined ends_apart
