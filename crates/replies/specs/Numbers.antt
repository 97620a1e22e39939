-- What is promised of numbers: those of reasons and refusals, and of an answer to a step; and of what a version shows. Each is the rules' own.
use Rattle.std.specs.Prelude.{ℕ}
use Rattle.rules.specs.Promise.{Promise, answering}
use Rattle.rules.specs.steps.Replies as Rules
use Rattle.rules.specs.steps.Replies.{reason_number, refusal_number, outcome_numbers, reply_numbers}
use Rattle.rules.specs.steps.Figure.{version_shows}
use Rattle.replies.specs.declared.Reason.{Reason}
use Rattle.replies.specs.declared.Refusal.{Refusal}
use Rattle.replies.specs.Meaning.{reason_is, refusal_is}

-- A version: its number, and its value.
pub record Version : Type 0 where
  pub number : ℕ
  pub value : ℕ

-- The promise of what a version shows.
abbrev pub VersionPromise : ℕ → ℕ → Rules.Content ℕ → Type 0
VersionPromise number value content =
    Promise (answering (λ (version : Version). version_shows version.number version.value)) (record { number = number; value = value }) content tt

-- The promise of a reason's number.
abbrev pub ReasonPromise : Reason → ℕ → Type 0
ReasonPromise reason number = Promise (answering (λ named. reason_number (reason_is named))) reason number tt

-- The promise of a refusal's number.
abbrev pub RefusalPromise : Refusal → ℕ → Type 0
RefusalPromise refusal number = Promise (answering (λ named. refusal_number (refusal_is named))) refusal number tt

-- The promise of an outcome in numbers.
abbrev pub OutcomePromise : Rules.Outcome ℕ → Rules.Numbers → Type 0
OutcomePromise outcome numbers = Promise (answering outcome_numbers) outcome numbers tt

-- The promise of an answer in numbers.
abbrev pub NumbersPromise : Rules.Reply ℕ → Rules.Numbers → Type 0
NumbersPromise reply numbers = Promise (answering reply_numbers) reply numbers tt
