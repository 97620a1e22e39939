-- What the judge's opening and its steps promise, for all words. Each reply is what the history tells that the words say, by the
-- rules' own definitions.
use Rattle.std.specs.Prelude.{ℕ, Bool, true, false, ◌&&◌, List, ◌∷◌, ◌++◌, length, drop, leb, if◌then◌else◌}
use Rattle.std.proofs.Math.Option.{Option, none, some}
use Rattle.rules.specs.Promise.{Due, Promise}
use Rattle.rules.specs.steps.Codes.{plain_sheet}
use Rattle.rules.specs.steps.Replies.{ok, shows, committed, aborted, Outcome, Refusal, not_well_formed, too_many_commits, Reply, reported, Opening}
use Rattle.rules.specs.steps.Register.{zeros}
use Rattle.rules.specs.steps.Checks.{first_hit, opening_checks}
use Rattle.rules.specs.demand.Judge.{judgement}
use Rattle.layout.specs.Rows.{row}
use Rattle.layout.specs.Places.{cells_of, handlers_of}
use Rattle.layout.specs.View.{word_setting}
use Rattle.promises.specs.Opening.{opening_reply, OpeningCall}
use Rattle.promises.specs.Stepping.{StepCall}
use Rattle.ledger.specs.Entries.{ledger_long, most_commits, commits_noted, is_ledger}
use Rattle.ledger.specs.Histories.{history_in}
use Rattle.ledger.specs.Noting.{note_words}

-- ── Opening ───────────────────────────────────────────────────────────

-- What the checks of an opening say of it: 20, 21.
unfoldable pub ledger_refusal : List ℕ → ℕ → ℕ → Option Refusal
ledger_refusal words m n = first_hit (opening_checks m n (length words) ledger_long)

-- A ledger for m cells and n handlers with nothing noted.
unfoldable pub fresh_ledger : ℕ → ℕ → List ℕ
fresh_ledger m n = m ∷ n ∷ row 5344 zeros

-- The words after an opening: a refusal changes nothing; words beyond the ledger stay as they were.
unfoldable pub ledger_words : List ℕ → ℕ → ℕ → Option Refusal → List ℕ
ledger_words words m n (some refusal) = words
ledger_words words m n none = fresh_ledger m n ++ drop ledger_long words

-- What opening comes to.
abbrev pub opening_ledger : OpeningCall → Due Opening (List ℕ)
opening_ledger call =
    let refusal = ledger_refusal call.words call.cells call.handlers in
    record { reply = opening_reply refusal; leaves = ledger_words call.words call.cells call.handlers refusal }

-- The promise of opening.
abbrev pub LedgerPromise : List ℕ → ℕ → ℕ → Opening → List ℕ → Type 0
LedgerPromise words m n reply after = Promise opening_ledger (record { words = words; cells = m; handlers = n }) reply after

-- ── A step ────────────────────────────────────────────────────────────

-- It is the outcome of a commit.
abbrev pub is_commit : Outcome ℕ → Bool
is_commit ok = false
is_commit (shows content) = false
is_commit committed = true
is_commit (aborted reason) = false

-- It reports a commit.
abbrev pub reports_commit : Reply ℕ → Bool
reports_commit (reported report) = is_commit report.outcome
reports_commit (Reply.refused refusal) = false

-- Where so many commits are noted, one more than the most is refused: 33.
unfoldable pub limited : ℕ → Reply ℕ → Reply ℕ
limited noted reply = if leb most_commits noted && reports_commit reply then (Reply.refused too_many_commits) else reply

-- The reply to what handler i asks for by a code.
unfoldable pub judged_reply : List ℕ → ℕ → ℕ → Reply ℕ
judged_reply words i code =
    let told = judgement (word_setting (cells_of words)) (handlers_of words) (history_in words) i code in
    if is_ledger words then (limited (commits_noted words) told) else (Reply.refused not_well_formed)

-- What a step comes to.
abbrev pub judging : StepCall → Due (Reply ℕ) (List ℕ)
judging call =
    let reply = judged_reply call.words call.handler call.code in
    record { reply = reply; leaves = note_words call.words call.handler (plain_sheet call.code) call.value reply }

-- The promise of a step.
abbrev pub JudgedPromise : List ℕ → ℕ → ℕ → ℕ → Reply ℕ → List ℕ → Type 0
JudgedPromise words handler code v reply after = Promise judging (record { words = words; handler = handler; code = code; value = v }) reply after
