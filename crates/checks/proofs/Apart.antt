-- Nothing is lost in what the enums of this crate mean: different kinds and verdicts differ in the rules. Each can be read back.
use Rattle.std.proofs.Common.{◌≡◌, refl, ap, Option, None, Some, Result, Ok, Err}
use Rattle.rules.specs.steps.Codes as Codes
use Rattle.rules.specs.steps.Replies as Rules
use Rattle.rules.proofs.Determined.{Determined, determined}
use Rattle.rules.proofs.steps.Numbers.{Injective, read_back}
use Rattle.replies.proofs.Apart.{refusal_back, refusal_same}
use Rattle.replies.specs.declared.Refusal.{Refusal}
use Rattle.checks.specs.declared.Step.{Step}
use Rattle.checks.specs.declared.Step.TheVariants.{Begin, Try, GiveUp, Read, Write}
use Rattle.checks.specs.Meaning.{step_is, kind_is, verdict_is}

-- The step of the rules' step.
step_back : Codes.Step → Step
step_back Codes.begin = Begin
step_back Codes.try = Try
step_back Codes.give_up = GiveUp
step_back (Codes.read x) = Read x
step_back (Codes.write x) = Write x

step_same : (step : Step) → step_back (step_is step) ≡ step
unfolding step_back
step_same Begin = refl
step_same Try = refl
step_same GiveUp = refl
step_same (Read x) = refl
step_same (Write x) = refl

-- The kind of the rules' kind.
kind_back : Codes.Kind → Option Step
kind_back (Codes.known step) = Some (step_back step)
kind_back Codes.unknown = None

kind_same : (kind : Option Step) → kind_back (kind_is kind) ≡ kind
unfolding kind_back
kind_same None = refl
kind_same (Some step) = ap Some (step_same step)

-- Different kinds differ in the rules.
pub kinds_apart : Injective kind_is
kinds_apart = read_back kind_is kind_back kind_same

-- The verdict of what the checks say.
verdict_back : Result Codes.Step Rules.Refusal → Result Step Refusal
verdict_back (Ok step) = Ok (step_back step)
verdict_back (Err refusal) = Err (refusal_back refusal)

verdict_same : (verdict : Result Step Refusal) → verdict_back (verdict_is verdict) ≡ verdict
unfolding verdict_back
verdict_same (Ok step) = ap Ok (step_same step)
verdict_same (Err refusal) = ap Err (refusal_same refusal)

-- Different verdicts differ in the rules.
pub verdicts_apart : Injective verdict_is
verdicts_apart = read_back verdict_is verdict_back verdict_same

-- A code has one kind,
pub kind_determined : Determined kind_is
kind_determined = determined kinds_apart

-- and the checks of a step one verdict.
pub verdict_determined : Determined verdict_is
verdict_determined = determined verdicts_apart
