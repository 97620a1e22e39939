-- When each number is given at an order place, and to whoever asks for a script: its own condition holds, and no earlier one does.
-- Beside the ordered lists of checks, as the rules have it of a step; proofs/Exactly.antt shows that each is given exactly then.
use Rattle.std.specs.Prelude.{ℕ, ◌≤◌, ◌<◌, ◌≡◌, true, List, length}
use Rattle.rules.specs.steps.Replies.{Refusal, bad_file, no_handler, used_up, unknown_step}
use Rattle.schedule.specs.Sound.{SoundFile, handlers_in}
use Rattle.schedule.specs.Taking.{Cursors, left_of, is_spoilt}

-- At an order place that names a handler:
pub data PlaceGiven (file : List ℕ) (cursors : Cursors) (handler : ℕ) : Refusal → Type 0 where
  -- 11 for handler n or above,
  beyond : handlers_in file ≤ handler → PlaceGiven file cursors handler no_handler
  -- 32 where its script is used up,
  nothing_left : handler < handlers_in file → length (left_of file cursors handler) ≤ 0 → PlaceGiven file cursors handler used_up
  -- and 15 where no step stands at its cursor, as is so nowhere in a run of a file that is admitted sound
  no_step_there : handler < handlers_in file → 0 < length (left_of file cursors handler) → is_spoilt (left_of file cursors handler) ≡ true
      → PlaceGiven file cursors handler unknown_step

-- Asked for the script of a handler:
pub data ScriptGiven (file : List ℕ) (handler : ℕ) : Refusal → Type 0 where
  -- 30 where the file is not sound,
  unsound : (SoundFile file → ⊥) → ScriptGiven file handler bad_file
  -- and 11 for handler n or above
  beyond : SoundFile file → handlers_in file ≤ handler → ScriptGiven file handler no_handler
