-- A file's run place by place, on cursors and words, is the run that the rules say.
use Prim.Native.Nat.{ℕ, suc, ◌+◌, ◌<◌}
use mathlib.Core.Path.{◌≡◌, refl, sym, ap, ◌∙◌}
use mathlib.Core.Bool.{true, true≢false}
use mathlib.Core.List.{List, [], ◌∷◌}
use mathlib.Core.Option.{Option, none, some}
use native.Mathlib.Omega.{arith}
use lib.ListN.{length, get_or-replicate, drop, get_or, length-drop}
use lib.Seq.{drop-cons}
use borrow.Author.Tests.{lt-leb}
use Rattle.rules.specs.steps.Tables.{is_found}
use Rattle.rules.specs.steps.Replies.{Refusal}
use Rattle.promises.proofs.Leaves.{opening_ready}
use Rattle.schedule.specs.Bytes.{byte_at}
use Rattle.schedule.specs.Sound.{handlers_in, cells_in, script_in, order_in, is_sound_file}
use Rattle.schedule.specs.Scripts.{ScriptStep, steps_of}
use Rattle.schedule.specs.Admitting.{file_refusal, admitted, admission_of, GoodFile}
use Rattle.schedule.proofs.Sounds.{file_tested}
use Rattle.schedule.proofs.Admits.{good_exactly}
use Rattle.schedule.specs.Taking.{Cursors, cursor_of, at_start, Next, next_of, named_next, cursors_after}
use Rattle.runs.specs.ByRules.{ordered, RunState, Run, steps_found, run_from, started, Played, ran, played_by, run_of}
use Rattle.runs.specs.Players.{the_register}
use Rattle.runs.specs.ByPlaces.{line_for, words_for, places_from, in_front}
use Rattle.runs.specs.RunOfPlaces.{shown_from, RunOfPlaces}
use Rattle.runs.proofs.Places.{Along, one_place}

-- What is shown of one place more, by what comes next there.
abbrev shown_by : List ℕ → ℕ → Cursors → ℕ → List ℕ → Next → Run
shown_by file count cursors place words next =
    let later = shown_from file count (cursors_after cursors next) (place + 1) (words_for the_register words next) in
    record { lines = in_front (line_for the_register words place next) later.lines; register = later.register }

module _ (file : List ℕ) (sound : is_sound_file file ≡ true) where
  -- An order byte at its place, and the order behind it.
  record AtPlace (place handler : ℕ) (rest : List ℕ) : Type 0 where
    within : place < length (order_in file)
    named : byte_at (order_in file) place ≡ handler
    behind : rest ≡ drop (place + 1) (order_in file)

  at_place : (place handler : ℕ) (rest : List ℕ) → handler ∷ rest ≡ drop place (order_in file) → AtPlace place handler rest
  at_place place handler rest e = record {
    within = inside;
    named = sym (ap (λ l. get_or l 0 0) split);
    behind = ap (drop 1) split ∙ ap (λ k. drop k (order_in file)) (sym one_more);
  }
    where
      inside : place < length (order_in file)
      inside = let long = ap length e ∙ length-drop place (order_in file) in omega (arith, long)

      split : handler ∷ rest ≡ byte_at (order_in file) place ∷ drop (suc place) (order_in file)
      split = e ∙ drop-cons (order_in file) place 0 inside

      one_more : place + 1 ≡ suc place
      one_more = omega arith

  -- The next step at a place is that of the handler that its byte names.
  next_named : {place handler : ℕ} {rest : List ℕ} (cursors : Cursors) → AtPlace place handler rest
      → next_of file cursors place ≡ named_next file cursors handler
  unfolding next_of
  next_named {place = place} cursors at =
      rw (sound, lt-leb (length (order_in file)) place at.within) (ap (named_next file cursors) at.named)

  -- From any place on.
  pub places_run : (rest : List ℕ) (place : ℕ) (cursors : Cursors) (words : List ℕ) (s : RunState)
      → rest ≡ drop place (order_in file) → Along file cursors words s
      → shown_from file (length rest) cursors place words ≡ run_from (cells_in file) (handlers_in file) s place rest
  unfolding places_from run_from
  places_run [] place cursors words s e along = ap (λ r. record { lines = []; register = r }) along.held.says
  places_run (handler ∷ rest) place cursors words s e along =
      let at = at_place place handler rest e in
      let here = one_place along place handler in
      let later = places_run rest (place + 1) _ _ _ at.behind here.along in
      let line = (ordered (cells_in file) (handlers_in file) s place handler).line in
      ap (shown_by file (length rest) cursors place words) (next_named cursors at)
      ∙ rw here.shown (ap (λ run. record { lines = line ∷ run.lines; register = run.register }) later)

-- A script that is whole has its steps.
whole_steps : (found : Option (List ScriptStep)) → is_found found ≡ true → found ≡ some (steps_found found)
whole_steps none e = absurd (true≢false (sym e))
whole_steps (some steps) e = refl

-- THE RUN OF ITS PLACES: cursors at the front and opened words stand where the rules' run starts.
pub run_of_places : RunOfPlaces
unfolding run_of admission_of admitted played_by started
run_of_places file before words free opening =
    let run = places_run file ((file_tested file).1 good.sound) (order_in file) 0 at_start words (started file (cells_in file)) refl along in
    rw free (ap (ran (handlers_in file) (cells_in file)) (sym run))
  where
    good : GoodFile file
    good = (good_exactly file).0 free

    at_front : (handler : ℕ) → handler < handlers_in file → cursor_of at_start handler ≡ 0
    at_front handler within =
        let fresh = opening_ready opening in
        get_or-replicate 16 handler 0 0 (omega (arith, within, fresh.well_formed.range.handlers, fresh.handler_count))

    along : Along file at_start words (started file (cells_in file))
    along =
        let fresh = opening_ready opening in
        record {
          held = record { well_formed = fresh.well_formed; cell_count = fresh.cell_count; handler_count = fresh.handler_count; says = fresh.says };
          room = omega (arith, fresh.well_formed.range.handlers, fresh.handler_count);
          leaving = λ handler within. rw (at_front handler within) (whole_steps (steps_of (script_in file handler)) (good.whole handler within));
        }

-- A file that is refused runs nothing.
pub refused_run : (file : List ℕ) {refusal : Refusal} → file_refusal file ≡ some refusal → run_of file ≡ Played.refused refusal
unfolding run_of admission_of admitted played_by
refused_run file e = rw e
