-- No answer but the refusal of a 65th commit says that there are too many.
use Rattle.std.proofs.Common.{◌≡◌, refl, false, Result, Ok, Err}
use Rattle.replies.specs.declared.Report.{Report}
use Rattle.replies.specs.declared.Refusal.{Refusal}
use Rattle.replies.specs.declared.Refusal.TheVariants.{NotWellFormed, NoHandler, NoCell, AlreadyOpen, NotOpen, UnknownStep}
use Rattle.replies.specs.declared.Refusal.TheVariants.{OutOfRange, TooShort, BadFile, UsedUp, TooManyCommits, SheetFull, NoRoom}
use Rattle.replies.specs.Meaning.{reply_is}
use Rattle.runs.specs.Stopping.{says_too_many}

-- Any other answer does not.
pub others_few : (answer : Result Report Refusal) → (answer ≡ Err TooManyCommits → ⊥) → false ≡ says_too_many (reply_is answer)
others_few (Ok report) other = refl
others_few (Err NotWellFormed) other = refl
others_few (Err NoHandler) other = refl
others_few (Err NoCell) other = refl
others_few (Err AlreadyOpen) other = refl
others_few (Err NotOpen) other = refl
others_few (Err UnknownStep) other = refl
others_few (Err OutOfRange) other = refl
others_few (Err TooShort) other = refl
others_few (Err BadFile) other = refl
others_few (Err UsedUp) other = refl
others_few (Err TooManyCommits) other = absurd (other refl)
others_few (Err SheetFull) other = refl
others_few (Err NoRoom) other = refl
