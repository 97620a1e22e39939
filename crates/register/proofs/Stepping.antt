-- A step on words that are no register is refused; on any others it is that of `turns`.
use Prim.Native.Nat.{ℕ}
use mathlib.Core.Path.{◌≡◌}
use mathlib.Core.Bool.{false}
use mathlib.Core.List.{List}
use Rattle.rules.specs.steps.Replies.{not_well_formed, Reply}
use Rattle.rules.specs.steps.Checks.{first_hit, step_checks}
use Rattle.rules.specs.steps.Turn.{step_refusal, turned, turn}
use Rattle.layout.specs.WellFormed.{is_well_formed}
use Rattle.promises.specs.Stepping.{turn_of, step_words, StepPromise}

-- Words that are no register are refused.
pub malformed_stops : (words : List ℕ) (handler code value : ℕ) → is_well_formed words ≡ false
    → StepPromise words handler code value (Reply.refused not_well_formed) words
unfolding turn_of step_words turn step_refusal turned first_hit step_checks
malformed_stops words handler code value malformed = record { replied = rw malformed; left = rw malformed }
