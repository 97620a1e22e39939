-- The admission of a file, before its first step: sound with n and m, or refused. File: 30, 15.
use Rattle.std.specs.Prelude.{ℕ, ◌<◌, ◌≡◌, Bool, true, false, not, List, [], ◌∷◌}
use Rattle.std.proofs.Math.Option.{Option, none, some}
use Rattle.rules.specs.Promise.{Promise, answering}
use Rattle.rules.specs.steps.Replies.{Refusal, bad_file, unknown_step}
use Rattle.rules.specs.steps.Checks.{Check, ◌when◌, first_hit}
use Rattle.layout.specs.WellFormed.{every_below}
use Rattle.schedule.specs.Sound.{handlers_in, cells_in, script_in, SoundFile, is_sound_file}
use Rattle.schedule.specs.Scripts.{is_whole}

-- The admission: sound, with n and m, or refused.
pub data Admission : Type 0 where
  sound : ℕ → ℕ → Admission
  refused : Refusal → Admission

-- Each script is whole, whether it is ordered or not.
abbrev pub all_whole : List ℕ → Bool
all_whole file = every_below (handlers_in file) (λ handler. is_whole (script_in file handler))

-- 30 where the file is not sound, 15 where some script is not whole.
unfoldable pub file_checks : List ℕ → List (Check Refusal)
file_checks file =
    (bad_file when not (is_sound_file file)) ∷
    (unknown_step when not (all_whole file)) ∷ []

-- What the checks of a file say of it.
unfoldable pub file_refusal : List ℕ → Option Refusal
file_refusal file = first_hit (file_checks file)

-- The admission that the checks come to.
unfoldable pub admitted : List ℕ → Option Refusal → Admission
admitted file none = sound (handlers_in file) (cells_in file)
admitted file (some refusal) = refused refusal

-- The admission of a file.
unfoldable pub admission_of : List ℕ → Admission
admission_of file = admitted file (file_refusal file)

-- A file that is run: it is sound, and each script is whole.
pub record GoodFile (file : List ℕ) : Type 0 where
  pub sound : SoundFile file
  pub whole : (handler : ℕ) → handler < handlers_in file → is_whole (script_in file handler) ≡ true

-- When a file is refused with each number: 30 where it is not sound, 15 where it is and some script is not whole.
pub data FileGiven (file : List ℕ) : Refusal → Type 0 where
  unsound : (SoundFile file → ⊥) → FileGiven file bad_file
  spoilt : (handler : ℕ) → SoundFile file → handler < handlers_in file → is_whole (script_in file handler) ≡ false
      → FileGiven file unknown_step

-- The promise of an admission.
abbrev pub AdmissionPromise : List ℕ → Admission → Type 0
AdmissionPromise file reply = Promise (answering admission_of) file reply tt
