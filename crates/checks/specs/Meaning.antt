-- What the answers of this crate mean in the rules: the kind of a code, and the checks' verdict.
use Rattle.std.specs.Prelude.{Option, None, Some, Result, Ok, Err}
use Rattle.rules.specs.steps.Codes as Codes
use Rattle.rules.specs.steps.Replies as Rules
use Rattle.replies.specs.declared.Refusal.{Refusal}
use Rattle.replies.specs.Meaning.{refusal_is}
use Rattle.checks.specs.declared.Step.{Step}
use Rattle.checks.specs.declared.Step.TheVariants.{Begin, Try, GiveUp, Read, Write}

-- The rules' step.
abbrev pub step_is : Step → Codes.Step
step_is Begin = Codes.begin
step_is Try = Codes.try
step_is GiveUp = Codes.give_up
step_is (Read x) = Codes.read x
step_is (Write x) = Codes.write x

-- The rules' kind.
abbrev pub kind_is : Option Step → Codes.Kind
kind_is None = Codes.unknown
kind_is (Some step) = Codes.known (step_is step)

-- What the checks say: the step, or the refusal.
abbrev pub verdict_is : Result Step Refusal → Result Codes.Step Rules.Refusal
verdict_is (Ok step) = Ok (step_is step)
verdict_is (Err refusal) = Err (refusal_is refusal)
