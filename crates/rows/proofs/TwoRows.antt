-- Two rows are the row of both, where the first ends with a whole step.
use Prim.Native.Nat.{ℕ, ◌+◌, ◌*◌, ◌-◌}
use mathlib.Core.Path.{◌≡◌, refl, sym, ap, ap₂, ◌∙◌}
use mathlib.Core.List.{List, [], ◌∷◌, ◌++◌}
use mathlib.Core.Option.{none}
use native.Mathlib.Omega.{arith}
use lib.ListN.{length, length-append}
use Rattle.limits.specs.Limits.{step_width, report_width}
use Rattle.layout.specs.Rows.{splice}
use Rattle.rows.specs.Rows.{steps_in, words_after, reports_of, reports_long}
use Rattle.rows.specs.OneByOne.{TwoRows}
use Rattle.rows.proofs.Steps.{steps_count, words_both, reports_both, reports_length, splice_both}
use Rattle.rows.proofs.Exactly.{DoneRow, row_passes, row_known}
use Rattle.rows.proofs.Around.{row_untouched, row_keeps}

-- Behind whole steps the others are said as if they stood alone.
pub steps_joined : (first second : List ℕ) (count : ℕ) → length first ≡ step_width * count
    → steps_in (first ++ second) ≡ steps_in first ++ steps_in second
unfolding steps_in
steps_joined [] second count whole = refl
steps_joined (handler ∷ []) second count whole = absurd (omega arith)
steps_joined (handler ∷ code ∷ []) second count whole = absurd (omega arith)
steps_joined (handler ∷ code ∷ value ∷ more) second count whole = rw (steps_joined more second (count - 1) (omega arith))

-- Words of so many whole steps say so many.
steps_counted : (words : List ℕ) (count : ℕ) → length words ≡ step_width * count → length (steps_in words) ≡ count
steps_counted words count whole = omega (arith, steps_count words)

module _ (first second : List ℕ) (count : ℕ) (whole : length first ≡ step_width * count) where
  -- The reports of both are as long as those of the first and those of the second.
  both_long : reports_long (steps_in (first ++ second)) ≡ report_width * count + reports_long (steps_in second)
  both_long =
      ap reports_long (steps_joined first second count whole)
      ∙ simp length-append (omega (arith, steps_counted first count whole))

  module _ {words reports : List ℕ} {place : ℕ} {between saying : List ℕ} (former : DoneRow words first reports place between saying) where
    -- What the steps of both leave, the second's leave behind the first.
    words_of_both : words_after words (steps_in (first ++ second)) ≡ words_after between (steps_in second)
    words_of_both =
        ap (words_after words) (steps_joined first second count whole)
        ∙ words_both words (steps_in first) (steps_in second)
        ∙ ap (λ now. words_after now (steps_in second)) (sym former.left)

    -- The reports of both are those of the first, and those of the second behind it.
    reports_of_both : reports_of words (steps_in (first ++ second)) ≡ reports_of words (steps_in first) ++ reports_of between (steps_in second)
    reports_of_both =
        ap (reports_of words) (steps_joined first second count whole)
        ∙ reports_both words (steps_in first) (steps_in second)
        ∙ ap (λ now. reports_of words (steps_in first) ++ reports_of now (steps_in second)) (sym former.left)

    -- They are put in at once, or one row's behind the other's.
    told_of_both : splice place (reports_long (steps_in (first ++ second))) (reports_of words (steps_in (first ++ second))) reports
        ≡ splice (place + report_width * count) (reports_long (steps_in second)) (reports_of between (steps_in second)) saying
    told_of_both =
        let new = reports_of words (steps_in first) in
        let other = reports_of between (steps_in second) in
        let counted = steps_counted first count whole in
        let more = reports_long (steps_in second) in
        let said : saying ≡ splice place (report_width * count) new reports =
        former.said ∙ ap (λ k. splice place (report_width * k) new reports) counted in
        let size : length new ≡ report_width * count = omega (arith, reports_length words (steps_in first)) in
        ap₂ (λ long (all : List ℕ). splice place long all reports) both_long reports_of_both
        ∙ sym (splice_both place (report_width * count) more new other reports size (omega (arith, former.room)))
        ∙ ap (splice (place + report_width * count) more other) (sym said)

-- Two rows are the row of both.
pub two_rows : TwoRows
two_rows words first second reports place count whole reply one two after told between saying after_two told_two both former latter =
    ((passes, back), same)
  where
    long : reports_long (steps_in (first ++ second)) ≡ report_width * count + reports_long (steps_in second)
    long = both_long first second count whole

    counted : length (steps_in first) ≡ count
    counted = steps_counted first count whole

    passes : reply ≡ none → (one ≡ none) × (two ≡ none)
    passes e =
        let row = row_known (rw e at both) in
        let first_done = row_passes former row.formed (omega (arith, row.room, long, counted)) in
        let start = rw first_done at former in
        (first_done, row_passes latter (row_keeps start).well_formed (omega (arith, row.room, (row_untouched start).size, long)))

    back : (one ≡ none) × (two ≡ none) → reply ≡ none
    back (e, f) =
        let start = rw e at former in
        let rest = row_known (rw f at latter) in
        row_passes both (row_known start).formed (omega (arith, rest.room, (row_untouched start).size, long))

    same : reply ≡ none → (after ≡ after_two) × (told ≡ told_two)
    same e =
        let row = row_known (rw e at both) in
        let (f, g) = passes e in
        let start = row_known (rw f at former) in
        let rest = row_known (rw g at latter) in (
          row.left ∙ words_of_both first second count whole start ∙ sym rest.left,
          row.said ∙ told_of_both first second count whole start ∙ sym rest.said,
        )
