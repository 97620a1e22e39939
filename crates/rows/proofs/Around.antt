-- What a row leaves as it was: all words around its reports, the register's length, its numbers of cells and handlers, and every word beyond
-- it. And a place beyond the end of the words for reports is 42, even with no step.
use Prim.Native.Nat.{ℕ, ◌<◌}
use mathlib.Core.Path.{◌≡◌, refl, ◌∙◌}
use mathlib.Core.List.{List, [], ◌∷◌}
use mathlib.Core.Option.{Option, none, some}
use native.Mathlib.Omega.{arith}
use lib.ListN.{length, drop}
use Rattle.rules.specs.steps.Replies.{Refusal, no_room}
use Rattle.rules.specs.demand.Demand.{Ask}
use Rattle.layout.specs.Rows.{part, Untouched}
use Rattle.layout.specs.Places.{cells_of, handlers_of, size}
use Rattle.layout.specs.WellFormed.{WellFormed}
use Rattle.layout.proofs.Untouched.{splice_part, splice_untouched}
use Rattle.layout.proofs.Kept.{Keeps}
use Rattle.promises.proofs.Leaves.{step_keeps, step_beyond}
use Rattle.rows.specs.Rows.{steps_in, asking, words_after, reports_of, reports_long, RowPromise}
use Rattle.rows.specs.Given.{short}
use Rattle.rows.proofs.Steps.{reports_length}
use Rattle.rows.proofs.Exactly.{row_refused, row_known}
use Rattle.rows.proofs.OneByOne.{asking_promised}

-- What is kept twice is kept.
keeps_on : {words between after : List ℕ} → Keeps words between → Keeps between after → Keeps words after
keeps_on first second = record {
  well_formed = second.well_formed;
  cell_count = second.cell_count ∙ first.cell_count;
  handler_count = second.handler_count ∙ first.handler_count;
  size = second.size ∙ first.size;
}

-- A well-formed register stays one through all steps, with as many cells, handlers and words.
pub steps_keep : (words : List ℕ) (asks : List (Ask ℕ)) → WellFormed words → Keeps words (words_after words asks)
unfolding words_after
steps_keep words [] formed = record { well_formed = formed; cell_count = refl; handler_count = refl; size = refl }
steps_keep words (a ∷ asks) formed =
    let one = step_keeps (asking_promised words a) formed in
    keeps_on one (steps_keep (asking words a).leaves asks one.well_formed)

-- Steps never change a word beyond the register.
steps_beyond : (words : List ℕ) (asks : List (Ask ℕ)) → WellFormed words
    → drop (size (cells_of words) (handlers_of words)) (words_after words asks) ≡ drop (size (cells_of words) (handlers_of words)) words
unfolding words_after
steps_beyond words [] formed = refl
steps_beyond words (a ∷ asks) formed =
    let one = step_keeps (asking_promised words a) formed in
    (rw (one.cell_count, one.handler_count) at (steps_beyond (asking words a).leaves asks one.well_formed))
    ∙ step_beyond (asking_promised words a)

module _ {words steps reports : List ℕ} {place : ℕ} {after told : List ℕ}
    (promise : RowPromise words steps reports place none after told) where
  -- Around the reports the words are as they were, and as many.
  pub row_untouched : Untouched place (reports_long (steps_in steps)) reports told
  row_untouched =
      let asks = steps_in steps in
      let row = row_known promise in
      rw row.said (splice_untouched place (reports_long asks) (reports_of words asks) reports (reports_length words asks) row.room)

  -- From the place on there are the reports.
  pub row_reports : part place (reports_long (steps_in steps)) told ≡ reports_of words (steps_in steps)
  row_reports =
      let asks = steps_in steps in
      let row = row_known promise in
      rw row.said (splice_part place (reports_long asks) (reports_of words asks) reports (reports_length words asks) row.room)

  -- The register stays well formed, with as many cells, handlers and words,
  pub row_keeps : Keeps words after
  row_keeps = rw (row_known promise).left (steps_keep words (steps_in steps) (row_known promise).formed)

  -- and every word beyond it is as it was.
  pub row_beyond : drop (size (cells_of words) (handlers_of words)) after ≡ drop (size (cells_of words) (handlers_of words)) words
  row_beyond = rw (row_known promise).left (steps_beyond words (steps_in steps) (row_known promise).formed)

-- A place beyond the end of the words for reports is 42, whatever the steps, even with none.
pub beyond_end : {words steps reports : List ℕ} {place : ℕ} {reply : Option Refusal} {after told : List ℕ}
    → RowPromise words steps reports place reply after told → WellFormed words → length reports < place → reply ≡ some no_room
beyond_end promise formed beyond = promise.replied ∙ (row_refused _ no_room).1 (short formed (omega arith))
