-- What the answers of this crate mean in the definitions.
use Rattle.std.specs.Prelude.{Result, Ok, Err}
use Rattle.std.proofs.Math.Option.{Option, none, some}
use Rattle.rules.specs.steps.Replies as Rules
use Rattle.replies.specs.Meaning.{refusal_is}
use Rattle.replies.specs.declared.Refusal.{Refusal}
use Rattle.schedule.specs.Admitting as Admitting
use Rattle.schedule.specs.Taking as Taking
use Rattle.schedule.specs.declared.Sizes.{Sizes}
use Rattle.schedule.specs.declared.Next.{Next}
use Rattle.schedule.specs.declared.Next.TheVariants.{Over, Refused, Taken}

-- The admission.
abbrev pub admission_is : Result Sizes Refusal → Admitting.Admission
admission_is (Ok sizes) = Admitting.sound sizes.handlers sizes.cells
admission_is (Err refusal) = Admitting.Admission.refused (refusal_is refusal)

-- The answer beside a script: nothing where it is found, and else the refusal.
abbrev pub found_is : Result Unit Refusal → Option Rules.Refusal
found_is (Ok tt) = none
found_is (Err refusal) = some (refusal_is refusal)

-- What comes next.
abbrev pub next_is : Next → Taking.Next
next_is (Next.Rejected refusal) = Taking.rejected (refusal_is refusal)
next_is Over = Taking.over
next_is (Refused handler refusal) = Taking.refused handler (refusal_is refusal)
next_is (Taken handler code value) = Taking.taken handler (record { code = code; value = value })
