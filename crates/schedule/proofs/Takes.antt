-- What stands in front of what is left of a script, by its ways: 32, 15, or a step with its value.
use Rattle.std.proofs.Common.{ℕ, ◌≡◌, ◌-◌, ◌≤◌, ◌<◌, List, length, take, drop, arith, length-drop, take_all}
use Rattle.std.proofs.Math.Option.{some}
use borrow.Author.Tests.{le-leb, lt-leb, lt-ltb, le-ltb}
use Rattle.rules.specs.steps.Replies.{used_up, unknown_step}
use Rattle.rules.specs.steps.Codes.{Step, known, unknown, plain_sheet}
use Rattle.rules.specs.steps.Checks.{first_hit}
use Rattle.schedule.specs.Bytes.{byte_at}
use Rattle.schedule.specs.Scripts.{value_behind}
use Rattle.schedule.specs.Taking.{left_checks}
use Rattle.schedule.specs.Fronts.{step_bytes, StepInFront}

-- 32 where the script is used up.
pub front_used : (script : List ℕ) (at : ℕ) → length script ≤ at → first_hit (left_checks (drop at script)) ≡ some used_up
unfolding first_hit left_checks
front_used script at used = rw (le-leb (length (drop at script)) 0 (omega (arith, length-drop at script)))

module _ (script : List ℕ) (at : ℕ) (inside : at < length script) where
  -- What is left, as it is lent: up to the script's end.
  abbrev pub lent : List ℕ
  lent = take (length script - at) (drop at script)

  -- That is all,
  all_left : lent ≡ drop at script
  all_left = take_all _ _ (omega (arith, length-drop at script))

  -- and not nothing.
  some_left : 0 < length (drop at script)
  some_left = omega (arith, length-drop at script)

  -- 15 where the code in front is unknown,
  pub front_unknown : plain_sheet (byte_at lent 0) ≡ unknown → first_hit (left_checks (drop at script)) ≡ some unknown_step
  unfolding first_hit left_checks
  front_unknown is = rw (lt-leb _ _ some_left, rw all_left at is)

  module _ {step : Step} (is : plain_sheet (byte_at lent 0) ≡ known step) where
    -- and where a write is cut short.
    pub front_cut : length lent < step_bytes (known step) → first_hit (left_checks (drop at script)) ≡ some unknown_step
    unfolding first_hit left_checks
    front_cut short = rw (lt-leb _ _ some_left, rw all_left at is, lt-ltb _ (step_bytes (known step)) (rw all_left at short))

    -- Else a step stands there, with its own value.
    pub front_stands : {value : ℕ} → step_bytes (known step) ≤ length lent → value ≡ value_behind (known step) lent
        → StepInFront (drop at script) (byte_at lent 0) value (step_bytes (known step))
    unfolding first_hit left_checks
    front_stands fits own =
        let there = rw all_left at is in
        let whole = rw all_left at fits in
        rw all_left (record {
          passes = rw (lt-leb _ _ some_left, there, le-ltb _ (step_bytes (known step)) whole);
          step = rw (there, own, all_left);
          takes = rw there;
          fits = whole;
        })
