-- What is promised of a step code's kind, of the table and the entries that say it, and of what the checks of a step say.
use Rattle.std.specs.Prelude.{ℕ, List, get_or, Result, Ok, Err}
use Rattle.std.proofs.Math.Option.{Option, none, some}
use Rattle.rules.specs.Promise.{Promise, answering}
use Rattle.rules.specs.steps.Codes.{Step, Kind, known, unknown, Sheet, plain_sheet}
use Rattle.rules.specs.steps.Replies.{Refusal, unknown_step}
use Rattle.rules.specs.steps.Checks.{Asked, first_hit, step_checks}
use Rattle.checks.specs.Entries.{entry_of, table_of, entry_says}

-- The promise of a sheet's table: the sheet's entries, code by code.
abbrev pub TablePromise : Sheet → List ℕ → Type 0
TablePromise sheet table = Promise (answering table_of) sheet table tt

-- The promise of a code's entry in a table: what stands at its place, and outside the table 0, which is no step's.
abbrev pub LookupPromise : List ℕ → ℕ → ℕ → Type 0
LookupPromise table code entry = Promise (answering (λ place. get_or table place 0)) code entry tt

-- The promise of a code's entry: that of the kind that the plain sheet says.
abbrev pub EntryPromise : ℕ → ℕ → Type 0
EntryPromise code entry = Promise (answering (λ asked. entry_of (plain_sheet asked))) code entry tt

-- The promise of an entry's kind: what the entry says.
abbrev pub SaysPromise : ℕ → Kind → Type 0
SaysPromise entry kind = Promise (answering entry_says) entry kind tt

-- The promise of a code's kind: what the plain sheet says.
abbrev pub KindPromise : ℕ → Kind → Type 0
KindPromise code kind = Promise (answering plain_sheet) code kind tt

-- What the checks come to: what the first that holds says, and where none does the step that the kind is. An unknown kind is none.
abbrev pub verdict : Option Refusal → Kind → Result Step Refusal
verdict (some refusal) kind = Err refusal
verdict none (known step) = Ok step
verdict none unknown = Err unknown_step

-- The promise of the checks of a step: what they come to.
abbrev pub VerdictPromise : Asked → Result Step Refusal → Type 0
VerdictPromise asked answer = Promise (answering (λ a. verdict (first_hit (step_checks a)) a.kind)) asked answer tt
