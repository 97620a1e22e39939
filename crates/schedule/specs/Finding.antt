-- A handler's script, asked for by the handler: where it lies in the file, its body as the very part of the file, and beside them the
-- answer that tells found, 30 and 11 apart. Codes are not looked at here.
use Rattle.std.specs.Prelude.{ℕ, not, List, [], ◌∷◌, leb}
use Rattle.std.proofs.Math.Option.{Option, none, some}
use Rattle.rules.specs.Promise.{Due, Promise, answering}
use Rattle.rules.specs.steps.Replies.{Refusal, bad_file, no_handler}
use Rattle.rules.specs.steps.Checks.{Check, ◌when◌, first_hit}
use Rattle.schedule.specs.Bytes.{entry_part, bytes_at}
use Rattle.schedule.specs.Sound.{handlers_in, table_start, is_sound_file}
use Rattle.schedule.specs.declared.Part.{Part}

-- 30 where the file is not sound, 11 for handler n or above.
unfoldable pub script_checks : List ℕ → ℕ → List (Check Refusal)
script_checks file handler = (bad_file when not (is_sound_file file)) ∷ (no_handler when leb (handlers_in file) handler) ∷ []

-- What the checks say of a handler that is asked for; none where its script is found.
unfoldable pub script_refusal : List ℕ → ℕ → Option Refusal
script_refusal file handler = first_hit (script_checks file handler)

-- Where the script lies: as the table's entry says where it is found, and with a refusal at 0 and 0 long.
unfoldable pub found_part : List ℕ → ℕ → Option Refusal → Part
found_part file handler none = entry_part file table_start handler
found_part file handler (some refusal) = record { offset = 0; length = 0 }

-- Where the script of the handler that is asked for lies.
abbrev pub script_part : List ℕ → ℕ → Part
script_part file handler = found_part file handler (script_refusal file handler)

-- What is given to whoever asks for a script: the file, and the handler.
pub record ScriptCall : Type 0 where
  pub file : List ℕ
  pub handler : ℕ

-- Where its script lies,
abbrev pub places_script : ScriptCall → Due Part Unit
places_script = answering (λ call. script_part call.file call.handler)

-- the part of the file that lies there,
abbrev pub finds_script : ScriptCall → Due (List ℕ) Unit
finds_script = answering (λ call. bytes_at call.file (script_part call.file call.handler))

-- and the answer beside it.
abbrev pub answers_script : ScriptCall → Due (Option Refusal) Unit
answers_script = answering (λ call. script_refusal call.file call.handler)

-- The promise of a script's place: offset and length.
abbrev pub PartPromise : List ℕ → ℕ → Part → Type 0
PartPromise file handler place = Promise places_script (record { file = file; handler = handler }) place tt

-- The promise of a script: the part of the file at that offset, of that length.
abbrev pub ScriptPromise : List ℕ → ℕ → List ℕ → Type 0
ScriptPromise file handler found = Promise finds_script (record { file = file; handler = handler }) found tt

-- The promise of the answer beside it.
abbrev pub AnswerPromise : List ℕ → ℕ → Option Refusal → Type 0
AnswerPromise file handler reply = Promise answers_script (record { file = file; handler = handler }) reply tt
