-- A ROW OF STEPS IN ONE CALL: the steps that some words say, what each comes to on the words that the one before it left, a report of each,
-- and where the reports go. For all words, rows, places and words for reports.
use Rattle.std.specs.Prelude.{ℕ, ◌+◌, ◌*◌, not, List, [], ◌∷◌, ◌++◌, length, ltb}
use Rattle.std.proofs.Math.Option.{Option, none, some}
use Rattle.rules.specs.Promise.{Due, Promise}
use Rattle.rules.specs.steps.Replies.{Refusal, not_well_formed, no_room, Reply, reply_numbers}
use Rattle.rules.specs.steps.Checks.{Check, ◌when◌, first_hit}
use Rattle.rules.specs.demand.Demand.{Ask}
use Rattle.limits.specs.Limits.{report_width}
use Rattle.layout.specs.Rows.{splice}
use Rattle.layout.specs.WellFormed.{is_well_formed}
use Rattle.promises.specs.Stepping.{stepping}

-- ── Steps and their reports ───────────────────────────────────────────

-- The steps of a row: handler, code and value, three words each. A last step that is cut short is none.
unfoldable pub steps_in : List ℕ → List (Ask ℕ)
steps_in [] = []
steps_in (handler ∷ []) = []
steps_in (handler ∷ code ∷ []) = []
steps_in (handler ∷ code ∷ value ∷ more) = record { handler = handler; code = code; value = value } ∷ steps_in more

-- What a step of a row comes to: what the register's step does.
abbrev pub asking : List ℕ → Ask ℕ → Due (Reply ℕ) (List ℕ)
asking words a = stepping (record { words = words; handler = a.handler; code = a.code; value = a.value })

-- The report of a step: handler and code as they were given, the kind of the reply, its value or number, and the cell that it names.
abbrev pub report_of : Ask ℕ → Reply ℕ → List ℕ
report_of a reply = let numbers = reply_numbers reply in a.handler ∷ a.code ∷ numbers.kind ∷ numbers.detail ∷ numbers.cell ∷ []

-- The words after steps one by one, each on the words that the one before it left.
unfoldable pub words_after : List ℕ → List (Ask ℕ) → List ℕ
words_after words [] = words
words_after words (a ∷ asks) = words_after (asking words a).leaves asks

-- Their reports, in order. A step that is refused is reported too, and the next one is taken.
unfoldable pub reports_of : List ℕ → List (Ask ℕ) → List ℕ
reports_of words [] = []
reports_of words (a ∷ asks) = report_of a (asking words a).reply ++ reports_of (asking words a).leaves asks

-- ── The call ──────────────────────────────────────────────────────────

-- What a row is given: the register's words, the row's, the words for reports, and the place of the first report.
pub record RowCall : Type 0 where
  pub words : List ℕ
  pub steps : List ℕ
  pub reports : List ℕ
  pub place : ℕ

-- What was lent to be written: the register's words, and those for reports.
pub record Lent : Type 0 where
  pub words : List ℕ
  pub reports : List ℕ

-- How many words the reports take.
abbrev pub reports_long : List (Ask ℕ) → ℕ
reports_long asks = report_width * length asks

-- The order of refusals, both before the first step: 10, then 42 where the reports would pass the end of the words for them.
unfoldable pub row_checks : RowCall → List (Check Refusal)
row_checks call =
    (not_well_formed when not (is_well_formed call.words)) ∷
    (no_room when ltb (length call.reports) (call.place + reports_long (steps_in call.steps))) ∷ []

-- A refused row changes nothing. Any other does its steps, and the reports stand from the place on, all other words as they were.
unfoldable pub rowed_by : RowCall → Option Refusal → Due (Option Refusal) Lent
rowed_by call (some refusal) = record { reply = some refusal; leaves = record { words = call.words; reports = call.reports } }
rowed_by call none =
    let asks = steps_in call.steps in
    record {
      reply = none;
      leaves = record {
        words = words_after call.words asks;
        reports = splice call.place (reports_long asks) (reports_of call.words asks) call.reports;
      };
    }

-- What a row comes to: the refusal, if there is one, and all words that were lent.
unfoldable pub rowing : RowCall → Due (Option Refusal) Lent
rowing call = rowed_by call (first_hit (row_checks call))

-- THE PROMISE OF A ROW.
abbrev pub RowPromise : List ℕ → List ℕ → List ℕ → ℕ → Option Refusal → List ℕ → List ℕ → Type 0
RowPromise words steps reports place reply after told =
    Promise rowing (record { words = words; steps = steps; reports = reports; place = place }) reply (record { words = after; reports = told })
