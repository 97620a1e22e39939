-- The register stops nowhere: the rules give no step 33.
use Prim.Native.Nat.{ℕ, zero, suc, ◌+◌}
use mathlib.Core.Path.{◌≡◌, refl, ap, ◌∙◌}
use mathlib.Core.Bool.{false}
use mathlib.Core.List.{List}
use mathlib.Core.Logic.{inl, inr}
use mathlib.Core.Option.{Option, none, some}
use lib.Dec.{eqb}
use Rattle.rules.specs.steps.Replies.{Refusal, refusal_number}
use Rattle.rules.specs.steps.Checks.{Asked}
use Rattle.rules.specs.steps.Given.{Given, malformed, unlisted, unseated, outside, twice, early}
use Rattle.rules.specs.steps.Turn.{Turn, taken_turn, refused_turn}
use Rattle.rules.proofs.steps.Given.{Verdict, verdict}
use Rattle.rules.proofs.steps.Turns.{given_turn, free_turn}
use Rattle.layout.specs.View.{viewed}
use Rattle.promises.specs.Stepping.{asked_of, turn_of}
use Rattle.schedule.specs.Scripts.{ScriptStep}
use Rattle.schedule.specs.Taking.{Next, rejected, over, refused, taken, next_of, cursors_after}
use Rattle.lines.specs.Lines.{Line}
use Rattle.runs.specs.Players.{the_register, reply_by}
use Rattle.runs.specs.ByPlaces.{in_front, line_for, words_for, places_from}
use Rattle.runs.specs.Stopping.{says_too_many, stops_at, ever_stops}
use Rattle.runs.specs.RunOfPlaces.{RegisterGoesOn}

-- No step is given 33,
given_other : (a : Asked) (refusal : Refusal) → Given a refusal → eqb (refusal_number refusal) 33 ≡ false
given_other a _ (malformed e) = refl
given_other a _ (unlisted e k) = refl
given_other a _ (unseated s e k l) = refl
given_other a _ (outside s h b) = refl
given_other a _ (twice f o) = refl
given_other a _ (early s f l o) = refl

-- so the register's reply is never 33, whatever its words,
pub register_other : (words : List ℕ) (handler : ℕ) (step : ScriptStep) → says_too_many (reply_by the_register words handler step) ≡ false
unfolding turn_of
register_other words handler step = ways (verdict (asked_of words handler step.code))
  where
    ways : Verdict (asked_of words handler step.code) → says_too_many (reply_by the_register words handler step) ≡ false
    ways (inl (refusal, given)) =
        let turned : turn_of words handler step.code step.value ≡ refused_turn (viewed words) refusal
        = given_turn _ _ _ _ _ _ step.value refusal given in
        ap (λ (t : Turn ℕ). says_too_many t.reply) turned ∙ given_other _ refusal given
    ways (inr (s, free)) =
        let turned : turn_of words handler step.code step.value ≡ taken_turn _ (viewed words) handler step.code step.value s
        = free_turn _ _ _ _ _ _ step.value s free in
        ap (λ (t : Turn ℕ). says_too_many t.reply) turned

-- no place shows a line at which a run stops,
place_goes_on : (words : List ℕ) (place : ℕ) (next : Next) → stops_at (line_for the_register words place next) ≡ false
unfolding line_for
place_goes_on words place (rejected refusal) = refl
place_goes_on words place over = refl
place_goes_on words place (refused handler refusal) = refl
place_goes_on words place (taken handler step) = register_other words handler step

-- and with a line in front that does not stop, others still do not:
front_goes_on : (line : Option Line) (lines : List Line) → stops_at line ≡ false → ever_stops lines ≡ false
    → ever_stops (in_front line lines) ≡ false
unfolding ever_stops
front_goes_on none lines here later = later
front_goes_on (some line) lines here later = rw here later

-- the register stops nowhere.
pub register_goes_on : RegisterGoesOn
unfolding places_from ever_stops
register_goes_on file zero cursors place words = refl
register_goes_on file (suc count) cursors place words =
    let next = next_of file cursors place in
    let later = register_goes_on file count (cursors_after cursors next) (place + 1) (words_for the_register words next) in
    front_goes_on (line_for the_register words place next) _ (place_goes_on words place next) later
