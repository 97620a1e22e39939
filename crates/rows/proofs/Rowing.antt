-- A row by its ways: words that are no register, too little room for the reports, and else all steps.
use Rattle.std.proofs.Common.{ℕ, ◌+◌, ◌*◌, ◌/◌, ◌≡◌, Bool, true, false, List, ltb, length}
use Rattle.std.proofs.Math.Option.{none, some}
use Rattle.rules.specs.steps.Replies.{Refusal, not_well_formed, no_room}
use Rattle.rules.specs.steps.Checks.{first_hit}
use Rattle.limits.specs.Limits.{step_width, report_width}
use Rattle.layout.specs.Rows.{splice}
use Rattle.layout.specs.WellFormed.{is_well_formed}
use Rattle.rows.specs.Rows.{steps_in, words_after, reports_of, RowCall, row_checks, rowed_by, rowing, RowPromise}
use Rattle.rows.proofs.Steps.{steps_count}

module _ (words steps reports : List ℕ) (place : ℕ) where
  -- What the row is given.
  abbrev call : RowCall
  call = record { words = words; steps = steps; reports = reports; place = place }

  -- A row that is refused changes nothing.
  row_refused : {refusal : Refusal} → first_hit (row_checks call) ≡ some refusal → RowPromise words steps reports place (some refusal) words reports
  unfolding rowing rowed_by
  row_refused is = record { replied = rw is; left = rw is }

  -- The words are no register.
  pub row_malformed : is_well_formed words ≡ false → RowPromise words steps reports place (some not_well_formed) words reports
  unfolding row_checks first_hit
  row_malformed malformed = row_refused (rw malformed)

  -- Whether there is no room for as many reports as the words say steps.
  abbrev short : Bool
  short = ltb (length reports) (place + report_width * (length steps / step_width))

  module _ (formed : is_well_formed words ≡ true) where
    -- There is none.
    pub row_short : short ≡ true → RowPromise words steps reports place (some no_room) words reports
    unfolding row_checks first_hit
    row_short is = row_refused (rw (formed, steps_count steps, is))

    -- Else no check holds,
    says_nothing : short ≡ false → first_hit (row_checks call) ≡ none
    unfolding row_checks first_hit
    says_nothing is = rw (formed, steps_count steps, is)

    -- and all steps are taken.
    pub row_done : short ≡ false → {after told : List ℕ} → after ≡ words_after words (steps_in steps)
        → told ≡ splice place (report_width * length (steps_in steps)) (reports_of words (steps_in steps)) reports
        → RowPromise words steps reports place none after told
    unfolding rowing rowed_by
    row_done is {after} {told} left put =
        let nothing = says_nothing is in
        record { replied = rw nothing; left = rw nothing (λ i. record { words = left i; reports = put i }) }
