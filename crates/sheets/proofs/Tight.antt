-- Any two outcomes that the promise of adding a file allows are equal: the very answer, and every word of the sheet.
use Rattle.std.proofs.Common.{◌≡◌, refl, ap, Result, Ok, Err}
use Rattle.std.proofs.Math.Option.{Option, none, some}
use Rattle.rules.specs.steps.Replies as Rules
use Rattle.rules.proofs.Determined.{Determined, determined}
use Rattle.rules.proofs.steps.Numbers.{Injective, read_back}
use Rattle.replies.proofs.Apart.{refusal_back, refusal_same}
use Rattle.replies.specs.declared.Refusal.{Refusal}
use Rattle.sheets.specs.Meaning.{added_is}

-- The answer, by what it means.
added_back : Option Rules.Refusal → Result Unit Refusal
added_back none = Ok tt
added_back (some refusal) = Err (refusal_back refusal)

added_same : (added : Result Unit Refusal) → added_back (added_is added) ≡ added
unfolding added_back
added_same (Ok tt) = refl
added_same (Err refusal) = ap Err (refusal_same refusal)

-- Different answers mean different replies.
pub added_apart : Injective added_is
added_apart = read_back added_is added_back added_same

-- Adding a file has one answer, and leaves one sheet.
pub added_determined : Determined added_is
added_determined = determined added_apart
