-- For internal contracts alone: what our own functions are called with and leave. Nothing here need be believed.
-- What the functions inside this crate say: how many bytes a step takes, where a script lies, what stands in front of what is left of
-- one, and what an order place names.
use Rattle.std.specs.Prelude.{ℕ, ◌+◌, ◌≤◌, ◌<◌, ◌≡◌, true, List, length, Option, None, Some, Result, Ok, Err}
use Rattle.std.proofs.Math.Option.{none, some}
use Rattle.rules.specs.steps.Codes.{Kind, known, unknown}
use Rattle.rules.specs.steps.Checks.{first_hit}
use Rattle.replies.specs.Meaning.{refusal_is}
use Rattle.replies.specs.declared.Refusal.{Refusal}
use Rattle.schedule.specs.Bytes.{byte_at}
use Rattle.schedule.specs.Sound.{order_in, is_sound_file}
use Rattle.schedule.specs.Scripts.{value_long, first_step}
use Rattle.schedule.specs.Finding.{script_refusal, script_part}
use Rattle.schedule.specs.Taking.{Cursors, Next, step_long, left_checks, named_next, cursors_after}
use Rattle.schedule.specs.declared.Part.{Part}
use Rattle.schedule.specs.declared.scripts.Standing.{Standing}

-- The bytes that a step takes, its value with it; 0 where the code is unknown.
abbrev pub step_bytes : Kind → ℕ
step_bytes (known step) = 1 + value_long (known step)
step_bytes unknown = 0

-- A handler's script that is asked for: where it lies, or why it is not found.
abbrev pub ScriptAt : List ℕ → ℕ → Result Part Refusal → Type 0
ScriptAt file handler (Ok place) = (script_refusal file handler ≡ none) × (place ≡ script_part file handler)
ScriptAt file handler (Err refusal) = script_refusal file handler ≡ some (refusal_is refusal)

-- A step stands in front of what is left.
pub record StepInFront (left : List ℕ) (code value long : ℕ) : Type 0 where
  pub passes : first_hit (left_checks left) ≡ none
  pub step : record { code = code; value = value } ≡ first_step left
  pub takes : long ≡ step_long left
  pub fits : long ≤ length left

-- What stands in front of what is left: a refusal, or a step.
abbrev pub FrontOf : List ℕ → Result Standing Refusal → Type 0
FrontOf left (Err refusal) = first_hit (left_checks left) ≡ some (refusal_is refusal)
FrontOf left (Ok standing) = StepInFront left standing.code standing.value standing.long

-- What an order place of a sound file holds: nothing beyond the order, and else the handler that it names.
abbrev pub OrderOf : List ℕ → ℕ → Option ℕ → Type 0
OrderOf file place None = (is_sound_file file ≡ true) × (length (order_in file) ≤ place)
OrderOf file place (Some handler) =
    (is_sound_file file ≡ true) × (place < length (order_in file)) × (handler ≡ byte_at (order_in file) place)

-- The next step of the handler that is named, and the cursors afterwards.
pub record NamedNext (file : List ℕ) (cursors : Cursors) (handler : ℕ) (reply : Next) (after : Cursors) : Type 0 where
  pub replied : reply ≡ named_next file cursors handler
  pub left : after ≡ cursors_after cursors (named_next file cursors handler)
