-- WHAT A ROW IS, claimed for every row that is not refused: its steps one by one, each of which keeps the register's own promise; two rows
-- one after another are the row of both; and whatever was a run of words goes on as one, so that the third demand holds of rows too.
use Rattle.std.specs.Prelude.{ℕ, ◌+◌, ◌*◌, ◌≡◌, List, [], ◌∷◌, ◌++◌, ◌↔◌, length}
use Rattle.std.proofs.Math.Option.{Option, none}
use Rattle.rules.specs.steps.Replies.{Refusal, Reply}
use Rattle.rules.specs.history.History.{History}
use Rattle.rules.specs.demand.Demand.{Ask}
use Rattle.limits.specs.Limits.{step_width, report_width}
use Rattle.layout.specs.Rows.{splice}
use Rattle.promises.specs.Stepping.{StepPromise}
use Rattle.promises.specs.Runs.{WordRun, noted}
use Rattle.promises.specs.Inherits.{WordsConsistent}
use Rattle.rows.specs.Rows.{steps_in, report_of, RowPromise}

-- Steps one by one: the steps, the words in front of them, their replies, and the words behind them; each keeps the register's promise.
pub data OneByOne : List (Ask ℕ) → List ℕ → List (Reply ℕ) → List ℕ → Type 0 where
  done : {words : List ℕ} → OneByOne [] words [] words
  next : {a : Ask ℕ} {asks : List (Ask ℕ)} {words between after : List ℕ} {reply : Reply ℕ} {replies : List (Reply ℕ)}
      → StepPromise words a.handler a.code a.value reply between → OneByOne asks between replies after
      → OneByOne (a ∷ asks) words (reply ∷ replies) after

-- The reports of some replies to some steps, in order.
unfoldable pub reports_for : List (Ask ℕ) → List (Reply ℕ) → List ℕ
reports_for [] replies = []
reports_for (a ∷ asks) [] = []
reports_for (a ∷ asks) (reply ∷ replies) = report_of a reply ++ reports_for asks replies

-- A ROW IS ITS STEPS ONE BY ONE: whatever replies and words the same steps come to, called for one by one, are the row's.
abbrev pub RowIsItsSteps : Type 0
RowIsItsSteps = (words steps reports : List ℕ) (place : ℕ) (after told between : List ℕ) (replies : List (Reply ℕ))
    → RowPromise words steps reports place none after told → OneByOne (steps_in steps) words replies between
    → (after ≡ between)
    × (told ≡ splice place (report_width * length (steps_in steps)) (reports_for (steps_in steps) replies) reports)

-- TWO ROWS ARE THE ROW OF BOTH: where the first ends with a whole step, the second goes on where the first one's reports end. The row of
-- both goes through exactly when each of them does, and then leaves the same.
abbrev pub TwoRows : Type 0
TwoRows = (words first second reports : List ℕ) (place count : ℕ) → length first ≡ step_width * count
    → (reply one two : Option Refusal) (after told between saying after_two told_two : List ℕ)
    → RowPromise words (first ++ second) reports place reply after told
    → RowPromise words first reports place one between saying
    → RowPromise between second saying (place + report_width * count) two after_two told_two
    → ((reply ≡ none) ↔ ((one ≡ none) × (two ≡ none))) × (reply ≡ none → (after ≡ after_two) × (told ≡ told_two))

-- The history after steps and their replies, noted one by one.
unfoldable pub noted_all : History ℕ → List (Ask ℕ) → List (Reply ℕ) → History ℕ
noted_all h [] replies = h
noted_all h (a ∷ asks) [] = h
noted_all h (a ∷ asks) (reply ∷ replies) = noted_all (noted h a reply) asks replies

-- THE THIRD DEMAND HOLDS OF ROWS: words that a run led to are, after a row, words that the run with the row's steps leads to, with the
-- replies that the reports tell noted in its history; so they agree with the third demand.
abbrev pub RowsInherit : Type 0
RowsInherit = (m n : ℕ) (asks : List (Ask ℕ)) (words : List ℕ) (h : History ℕ) → WordRun m n asks words h
    → (steps reports : List ℕ) (place : ℕ) (after told : List ℕ) → RowPromise words steps reports place none after told
    → (replies : List (Reply ℕ)) × (told ≡ splice place (report_width * length (steps_in steps)) (reports_for (steps_in steps) replies) reports)
    × WordRun m n (asks ++ steps_in steps) after (noted_all h (steps_in steps) replies)
    × WordsConsistent m n after (noted_all h (steps_in steps) replies)
