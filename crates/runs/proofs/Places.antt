-- One order place on cursors and words beside one order place of the rules' run.
use Prim.Native.Nat.{ℕ, suc, ◌+◌, ◌<◌, ◌≤◌}
use mathlib.Core.Path.{◌≡◌, refl, sym, ap, ◌∙◌, subst}
use mathlib.Core.Bool.{true, false}
use mathlib.Core.List.{List, [], ◌∷◌}
use mathlib.Core.Option.{some, some-injective}
use native.Mathlib.Omega.{arith}
use lib.Dec.{eqb, leb}
use lib.ListN.{length, drop, set, length-set}
use lib.Seq.{drop-drop, get_or-set_same, get_or-set_other}
use borrow.Author.Tests.{leb-false, lt-leb, le-ltb, eqb-true, eqb-false}
use Rattle.rules.specs.steps.Tables.{put}
use Rattle.rules.specs.steps.Codes.{plain_sheet}
use Rattle.rules.specs.steps.Register.{Register}
use Rattle.rules.specs.steps.Checks.{first_hit}
use Rattle.rules.specs.steps.Turn.{turn}
use Rattle.rules.proofs.steps.Tables.{by, put_here, put_other}
use Rattle.layout.specs.Places.{cells_of, handlers_of, body_of}
use Rattle.layout.specs.View.{word_setting, view}
use Rattle.layout.specs.WellFormed.{WellFormed}
use Rattle.layout.proofs.Tested.{tested}
use Rattle.layout.proofs.Kept.{Keeps}
use Rattle.promises.specs.Stepping.{turn_of, step_words, StepPromise}
use Rattle.promises.proofs.Leaves.{step_keeps, step_says}
use Rattle.schedule.specs.Sound.{handlers_in, cells_in, script_in}
use Rattle.schedule.specs.Scripts.{ScriptStep, value_long, first_step, steps_behind, steps_of}
use Rattle.schedule.specs.Taking.{Cursors, cursor_of, taken, left_of, is_spoilt, left_checks, place_checks, answered, named_next, cursors_after}
use Rattle.lines.specs.Lines.{step_line}
use Rattle.runs.specs.ByRules.{RunState, next_asked, ordered}
use Rattle.runs.specs.Players.{the_register}
use Rattle.runs.specs.ByPlaces.{line_for, words_for}
use Rattle.runs.proofs.Scripts.{InFront, in_front_lem}

-- The words hold the register of a run of the file.
pub record Holding (file words : List ℕ) (register : Register ℕ) : Type 0 where
  pub well_formed : WellFormed words
  pub cell_count : cells_of words ≡ cells_in file
  pub handler_count : handlers_of words ≡ handlers_in file
  pub says : view (cells_in file) (handlers_in file) (body_of words) ≡ register

-- The bytes that the cursors leave are the steps that the run has left.
abbrev pub Leaving : List ℕ → Cursors → (ℕ → List ScriptStep) → Type 0
Leaving file cursors left = (handler : ℕ) → handler < handlers_in file → steps_of (left_of file cursors handler) ≡ some (left handler)

-- Cursors and words stand where the run stands.
pub record Along (file : List ℕ) (cursors : Cursors) (words : List ℕ) (s : RunState) : Type 0 where
  pub held : Holding file words s.register
  pub room : handlers_in file ≤ length cursors
  pub leaving : Leaving file cursors s.left

module _ {file words : List ℕ} {register : Register ℕ} (held : Holding file words register) where
  -- The promise's turn is the rules' turn,
  pub same_turn : (handler code value : ℕ)
      → turn_of words handler code value ≡ turn (word_setting (cells_in file)) (handlers_in file) true register handler code value
  unfolding turn_of
  same_turn handler code value = rw (held.cell_count, held.handler_count, (tested words).1 held.well_formed, held.says)

  -- and the words hold what it leaves.
  pub turn_holding : (handler code value : ℕ) → let t = turn_of words handler code value in
      Holding file (step_words words t.reply t.after)
      (turn (word_setting (cells_in file)) (handlers_in file) true register handler code value).after
  turn_holding handler code value = record {
    well_formed = keeps.well_formed;
    cell_count = keeps.cell_count ∙ held.cell_count;
    handler_count = keeps.handler_count ∙ held.handler_count;
    says = viewed ∙ ap (λ t. t.after) (same_turn handler code value);
  }
    where
      after : List ℕ
      after = let t = turn_of words handler code value in step_words words t.reply t.after

      promise : StepPromise words handler code value (turn_of words handler code value).reply after
      promise = record { replied = refl; left = refl }

      keeps : Keeps words after
      keeps = step_keeps promise held.well_formed

      viewed : view (cells_in file) (handlers_in file) (body_of after) ≡ (turn_of words handler code value).after
      viewed =
          subst (λ m. view m (handlers_in file) (body_of after) ≡ (turn_of words handler code value).after) held.cell_count
          (subst (λ n. view (cells_of words) n (body_of after) ≡ (turn_of words handler code value).after) held.handler_count (step_says promise))

-- What a place comes to in both: the same line, and both stand on alike.
pub record OnePlace (file : List ℕ) (cursors : Cursors) (words : List ℕ) (s : RunState) (place handler : ℕ) : Type 0 where
  pub shown : line_for the_register words place (named_next file cursors handler) ≡ some (ordered (cells_in file) (handlers_in file) s place handler).line
  pub along : Along file (cursors_after cursors (named_next file cursors handler)) (words_for the_register words (named_next file cursors handler))
      (ordered (cells_in file) (handlers_in file) s place handler).after

module _ {file : List ℕ} {cursors : Cursors} {words : List ℕ} {s : RunState} (along : Along file cursors words s) (place handler : ℕ) where
  -- Handler n or above: 11 in both.
  no_handler : leb (handlers_in file) handler ≡ true → OnePlace file cursors words s place handler
  unfolding named_next answered place_checks first_hit ordered line_for words_for cursors_after
  no_handler outside = record { shown = rw outside; along = rw outside along }

  module _ (inside : leb (handlers_in file) handler ≡ false) where
    -- A script that is used up: 32 in both.
    nothing_left_lem : left_of file cursors handler ≡ [] → s.left handler ≡ [] → OnePlace file cursors words s place handler
    unfolding named_next answered place_checks left_checks first_hit ordered next_asked line_for words_for cursors_after
    nothing_left_lem empty none_left = record { shown = rw (inside, empty, none_left); along = rw (inside, empty, none_left) along }

    module _ (code : ℕ) (bytes : List ℕ) (front : left_of file cursors handler ≡ code ∷ bytes) (stands : InFront code bytes (s.left handler)) where
      -- The step that stands in front.
      step : ScriptStep
      step = first_step (code ∷ bytes)

      spoilt : is_spoilt (code ∷ bytes) ≡ false
      spoilt = rw stands.known (le-ltb (length (code ∷ bytes)) (1 + value_long (plain_sheet code)) (omega (arith, stands.fits)))

      -- It is taken at this place,
      taken_here : named_next file cursors handler ≡ taken handler step
      unfolding named_next answered place_checks left_checks first_hit step
      taken_here = rw (inside, front, spoilt, lt-leb (length (code ∷ bytes)) 0 (omega arith)) (ap (taken handler) (ap first_step front))

      one_more : 1 + value_long (plain_sheet code) ≡ suc (value_long (plain_sheet code))
      one_more = omega arith

      -- its cursor moves on,
      moved : Cursors
      moved = set cursors handler (cursor_of cursors handler + (1 + value_long (plain_sheet code)))

      placed : handler < length cursors
      placed = omega (arith, along.room, leb-false (handlers_in file) handler inside)

      -- it leaves the bytes behind it,
      leaves : left_of file moved handler ≡ drop (value_long (plain_sheet code)) bytes
      unfolding moved
      leaves =
          ap (λ k. drop k (script_in file handler)) (get_or-set_same cursors handler _ 0 placed)
          ∙ sym (drop-drop (1 + value_long (plain_sheet code)) (cursor_of cursors handler) (script_in file handler))
          ∙ ap (drop (1 + value_long (plain_sheet code))) front ∙ ap (λ k. drop k (code ∷ bytes)) one_more

      -- and the cursors leave what the run has left.
      leaving_next : Leaving file moved (put s.left handler stands.rest)
      unfolding moved
      leaving_next other within = by (eqb other handler)
          (λ same. let is = eqb-true other handler same in rw (is, put_here s.left handler stands.rest, leaves) stands.left)
          (λ apart. let is_not = eqb-false other handler apart in
          rw (get_or-set_other cursors handler other _ 0 is_not, put_other s.left handler stands.rest other is_not) (along.leaving other within))

      kept : handlers_in file ≤ length moved
      unfolding moved
      kept = omega (arith, along.room, length-set cursors handler (cursor_of cursors handler + (1 + value_long (plain_sheet code))))

      -- A step in front: it is asked of the register in both, and used up.
      step_left : OnePlace file cursors words s place handler
      unfolding ordered next_asked line_for words_for cursors_after step moved
      step_left = record {
        shown = rw (taken_here, inside, stands.stands)
            (ap (λ t. some (step_line place handler code t.reply)) (same_turn along.held handler code step.value));
        along = rw (taken_here, inside, stands.stands)
            (record { held = turn_holding along.held handler code step.value; room = kept; leaving = leaving_next });
      }

    -- The handler's script has a step in front, or it has none.
    one_handler : OnePlace file cursors words s place handler
    unfolding steps_behind
    one_handler = split (left_of file cursors handler) refl
      where
        left : steps_of (left_of file cursors handler) ≡ some (s.left handler)
        left = along.leaving handler (leb-false (handlers_in file) handler inside)

        split : (bytes : List ℕ) → left_of file cursors handler ≡ bytes → OnePlace file cursors words s place handler
        split [] empty = nothing_left_lem empty (sym (some-injective _ _ (rw empty at left)))
        split (code ∷ bytes) front = step_left code bytes front (in_front_lem code bytes (s.left handler) (rw front at left))

  -- Every order byte comes to the same in both.
  pub one_place : OnePlace file cursors words s place handler
  one_place = by (leb (handlers_in file) handler) no_handler one_handler
