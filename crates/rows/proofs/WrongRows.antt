-- A row with every word, computed by the definitions: begin, a code that is no step, a write, a read, and a step that is cut short, of one
-- cell and one handler. Rows that no edit of one operand makes are shut out by it: see "Wrong rows".
use Rattle.std.specs.Prelude.{if◌then◌else◌}
use Prim.Native.Nat.{ℕ}
use mathlib.Core.Path.{◌≡◌, refl, sym, ap, ◌∙◌}
use mathlib.Core.List.{List, [], ◌∷◌, ◌++◌}
use mathlib.Core.Option.{Option, none}
use native.Mathlib.Omega.{arith}
use lib.Dec.{eqb}
use lib.ListN.{get_or, replicate}
use Rattle.rules.specs.steps.Tables.{put, or_else, lowest, some_below}
use Rattle.rules.specs.steps.Codes.{plain_sheet}
use Rattle.rules.specs.steps.Replies.{Refusal, reply_numbers}
use Rattle.rules.specs.steps.Register.{with_handler, idle}
use Rattle.rules.specs.steps.Checks.{first_hit, step_checks, in_range}
use Rattle.rules.specs.steps.Figure.{joined, taken, wrote, shown, stamped, stored, begun, torn_cell, overtaken_cell, spent_cell}
use Rattle.rules.specs.steps.Figure.{aborting, committing, unless_aborted, read_checks, try_checks, first_read, reading, trying, step}
use Rattle.rules.specs.steps.Turn.{step_refusal, turned, turn}
use Rattle.rules.specs.demand.Demand.{Ask}
use Rattle.layout.specs.Bits.{has_bit, mask}
use Rattle.layout.specs.Rows.{row, rows, below}
use Rattle.layout.specs.View.{view_cell, view_handler, view, pour_cell, pour_handler, pour}
use Rattle.layout.specs.WellFormed.{every_below, numbers_fit, is_good_block, is_good_body, is_well_formed}
use Rattle.promises.specs.Stepping.{turn_of, step_words}
use Rattle.rows.specs.Rows.{steps_in, asking, words_after, reports_of, RowCall, row_checks, rowed_by, rowing, RowPromise}

-- ── A row ─────────────────────────────────────────────────────────────

-- A fresh register of one cell and one handler, and a word beyond it.
unfoldable pub at_rest : List ℕ
at_rest = 1 ∷ 1 ∷ 0 ∷ 0 ∷ 0 ∷ 0 ∷ 0 ∷ 0 ∷ 0 ∷ 0 ∷ 7 ∷ []

-- Begin, the unknown code 3, write 5, read; and a try that is cut short by its last word.
unfoldable pub four_steps : List ℕ
four_steps = 0 ∷ 0 ∷ 0 ∷ 0 ∷ 3 ∷ 0 ∷ 0 ∷ 64 ∷ 5 ∷ 0 ∷ 32 ∷ 0 ∷ 0 ∷ 1 ∷ []

-- Words for five reports, with one word before them and one behind.
unfoldable pub marked : List ℕ
marked = replicate 27 9

-- The register behind the row: an open transaction, that has written 5.
unfoldable pub written : List ℕ
written = 1 ∷ 1 ∷ 0 ∷ 0 ∷ 1 ∷ 0 ∷ 1 ∷ 0 ∷ 0 ∷ 5 ∷ 7 ∷ []

-- The reports: ok, refused with 15, ok, and the value 5. No other word is another.
unfoldable pub reported : List ℕ
reported = 9 ∷ 0 ∷ 0 ∷ 0 ∷ 0 ∷ 0 ∷ 0 ∷ 3 ∷ 4 ∷ 15 ∷ 0 ∷ 0 ∷ 64 ∷ 0 ∷ 0 ∷ 0 ∷ 0 ∷ 32 ∷ 1 ∷ 5 ∷ 0 ∷ 9 ∷ 9 ∷ 9 ∷ 9 ∷ 9 ∷ 9 ∷ []

-- What the row is given.
abbrev four_given : RowCall
four_given = record { words = at_rest; steps = four_steps; reports = marked; place = 1 }

-- ── Wrong rows ────────────────────────────────────────────────────────

-- The words that a row leaves which stops at its first refused step.
unfoldable pub stopped_at : List ℕ → List (Ask ℕ) → List ℕ
stopped_at words [] = words
stopped_at words (a ∷ asks) =
    let t = asking words a in
    if eqb (reply_numbers t.reply).kind 4 then words else (stopped_at t.leaves asks)

-- The words that a row leaves which takes a step that is cut short by a word, with 0 in its place.
abbrev pub filled_up : List ℕ → List ℕ → List ℕ
filled_up words steps = words_after words (steps_in (steps ++ (0 ∷ [])))

-- What the definitions come to: the reply and every word of the row; that one which stops has not written; and that one which fills up has
-- committed.
record Computed : Type 0 where
  reply : (rowing four_given).reply ≡ none
  words : (rowing four_given).leaves.words ≡ written
  reports : (rowing four_given).leaves.reports ≡ reported
  stopped : get_or (stopped_at at_rest (steps_in four_steps)) 9 0 ≡ 0
  filled : get_or (filled_up at_rest four_steps) 2 0 ≡ 5

computed : Computed
unfolding at_rest four_steps marked written reported stopped_at steps_in words_after reports_of row_checks rowed_by rowing turn_of step_words
    every_below numbers_fit is_good_block is_good_body is_well_formed view_cell view_handler view pour_cell pour_handler pour
    has_bit mask row rows below put or_else lowest some_below plain_sheet with_handler idle first_hit step_checks in_range
    joined taken wrote shown stamped stored begun torn_cell overtaken_cell spent_cell aborting committing
    unless_aborted read_checks try_checks first_read reading trying step step_refusal turned turn
computed = record { reply = refl; words = refl; reports = refl; stopped = refl; filled = refl }

module _ {reply : Option Refusal} {after told : List ℕ} (promise : RowPromise at_rest four_steps marked 1 reply after told) where
  -- Whatever keeps the promise of a row does the four steps, and leaves these words.
  pub four_steps_lem : (reply ≡ none) × (after ≡ written) × (told ≡ reported)
  four_steps_lem = (
    promise.replied ∙ computed.reply,
    ap (λ lent. lent.words) promise.left ∙ computed.words,
    ap (λ lent. lent.reports) promise.left ∙ computed.reports,
  )

  -- So it does not stop at a refused step,
  pub not_stopping : after ≡ stopped_at at_rest (steps_in four_steps) → ⊥
  unfolding written
  not_stopping stops =
      let copies : ◌≡◌ {A = ℕ} 5 0 = ap (λ l. get_or l 9 0) (sym four_steps_lem.1 ∙ stops) ∙ computed.stopped in
      omega arith

  -- nor takes a step that is cut short,
  pub not_filling_up : after ≡ filled_up at_rest four_steps → ⊥
  unfolding written
  not_filling_up fills =
      let values : ◌≡◌ {A = ℕ} 0 5 = ap (λ l. get_or l 2 0) (sym four_steps_lem.1 ∙ fills) ∙ computed.filled in
      omega arith

  -- nor takes all steps back where one of them is refused.
  pub not_taking_back : after ≡ at_rest → ⊥
  unfolding written at_rest
  not_taking_back back = let phases : ◌≡◌ {A = ℕ} 1 0 = ap (λ l. get_or l 4 0) (sym four_steps_lem.1 ∙ back) in omega arith
