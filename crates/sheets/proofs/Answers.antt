-- A sheet with what a place shows: nothing to count, or the row of a handler brought up to date with an answer. Its counts have room,
-- and the sheet is the one with the answer's line.
use Rattle.std.proofs.Common.{ℕ, ◌+◌, ◌*◌, ◌≤◌, ◌<◌, ◌≡◌, ◌⊎◌, inl, inr, ap, ◌∙◌, List, Result, arith, length, get_or}
use Rattle.words.specs.Rows.{Changed}
use Rattle.words.proofs.Changes.{changed_at}
use Rattle.replies.specs.declared.Report.{Report}
use Rattle.replies.specs.declared.Refusal.{Refusal}
use Rattle.replies.specs.Meaning.{refusal_is, reply_is}
use Rattle.lines.specs.declared.Shown.{Shown}
use Rattle.lines.specs.declared.Shown.TheVariants.{Nothing, NoStep, Asked}
use Rattle.lines.specs.Lines.{step_line}
use Rattle.counts.specs.declared.Counts.{Counts}
use Rattle.counts.specs.Counting.{raised, adds}
use Rattle.counts.specs.Rows.{in_column, BroughtUp, Room}
use Rattle.sheets.specs.Sheets.{columns, sheet_long}
use Rattle.sheets.specs.Adding.{CountsTo, most_raised, ReadAt, WithShown}
use Rattle.sheets.proofs.WithLines.{with_none, with_no_step, with_beyond, with_row}

-- A place that shows nothing changes nothing,
nothing_counted : {words : List ℕ} → sheet_long ≤ length words → WithShown Nothing words words
nothing_counted {words} long = record { adds = λ place. with_none words long }

-- nor does one where no step was taken.
no_step_counted : {words : List ℕ} {handler : ℕ} {refusal : Refusal} → sheet_long ≤ length words → WithShown (NoStep handler refusal) words words
no_step_counted {words} {handler} {refusal} long =
    record { adds = λ place. with_no_step words long place handler (refusal_is refusal) }

-- So either changes nothing.
pub none_counted : {words : List ℕ} {shown : Shown} → sheet_long ≤ length words
    → (shown ≡ Nothing) ⊎ ((handler : ℕ) × (refusal : Refusal) × (shown ≡ NoStep handler refusal)) → WithShown shown words words
none_counted long (inl is) = rw is (nothing_counted long)
none_counted long (inr (handler, refusal, is)) = rw is (no_step_counted long)

-- The answer to a step of a handler that has no row changes nothing.
pub answer_beyond : {words : List ℕ} {handler code : ℕ} {answer : Result Report Refusal} → sheet_long ≤ length words → 16 ≤ handler
    → WithShown (Asked handler code answer) words words
answer_beyond {words} {handler} {code} {answer} long beyond =
    record { adds = λ place. with_beyond words long (step_line place handler code (reply_is answer)) beyond }

module _ {words : List ℕ} {at handler : ℕ} {counts : Counts} (to : CountsTo most_raised words) (inside : handler < 16)
    (starts : at ≡ handler * columns) (read : ReadAt at words counts) where
  -- Each count of the row can be raised.
  pub row_room : Room counts
  row_room = record {
    begun = room 0 (omega arith);
    committed = room 1 (omega arith);
    torn = room 2 (omega arith);
    overtaken = room 3 (omega arith);
    spent = room 4 (omega arith);
    given_up = room 5 (omega arith);
  }
    where
      room : (k : ℕ) → k < columns → in_column counts k < 4294967295
      room k among = omega (arith, (rw starts at (read.holds k among)), to.each handler k inside among)

  -- With the counts brought up to date put into the row, the answer's line is counted.
  pub answer_counted : {code : ℕ} {answer : Result Report Refusal} {up : Counts} {after : List ℕ} → BroughtUp (raised code (reply_is answer)) counts up
      → Changed at columns (in_column up) words after → WithShown (Asked handler code answer) words after
  answer_counted {code} {answer} {up} {after} brought changed =
      record { adds = λ place. with_row words to.long (step_line place handler code (reply_is answer)) inside raises }
    where
      raises : Changed (handler * columns) columns (λ k. get_or words (handler * columns + k) 0 + adds (raised code (reply_is answer)) k) words after
      raises = changed_at starts (record {
        untouched = changed.untouched;
        inside = λ k among. changed.inside k among ∙ brought.raises k among
            ∙ ap (λ (held : ℕ). held + adds (raised code (reply_is answer)) k) (rw starts at (read.holds k among));
      })
