-- What the answer of this crate means in the definitions.
use Rattle.std.specs.Prelude.{Result, Ok, Err}
use Rattle.std.proofs.Math.Option.{Option, none, some}
use Rattle.rules.specs.steps.Replies as Rules
use Rattle.replies.specs.declared.Refusal.{Refusal}
use Rattle.replies.specs.Meaning.{refusal_is}

-- The reply to a row: nothing where it is done, and else the refusal.
abbrev pub rowed_is : Result Unit Refusal → Option Rules.Refusal
rowed_is (Ok tt) = none
rowed_is (Err refusal) = some (refusal_is refusal)
