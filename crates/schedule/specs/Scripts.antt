-- Scripts: a row of step codes, each write code followed by four bytes of value, read as a list of steps.
use Rattle.std.specs.Prelude.{ℕ, zero, suc, Bool, List, [], ◌∷◌, if◌then◌else◌}
use Rattle.std.proofs.Math.Option.{Option, none, some}
use Rattle.rules.specs.steps.Tables.{is_found}
use Rattle.rules.specs.steps.Codes.{begin, try, give_up, read, write, Kind, known, unknown, plain_sheet}
use Rattle.rules.specs.steps.Checks.{is_unknown}
use Rattle.schedule.specs.Bytes.{byte_at, long_at}

-- A step of a script: its code, and its value, 0 where it is no write.
pub record ScriptStep : Type 0 where
  pub code : ℕ
  pub value : ℕ

-- How many bytes of value follow a code.
abbrev pub value_long : Kind → ℕ
value_long (known begin) = 0
value_long (known try) = 0
value_long (known give_up) = 0
value_long (known (read x)) = 0
value_long (known (write x)) = 4
value_long unknown = 0

-- The value of a step at the front of some bytes.
abbrev pub value_behind : Kind → List ℕ → ℕ
value_behind (known begin) bytes = 0
value_behind (known try) bytes = 0
value_behind (known give_up) bytes = 0
value_behind (known (read x)) bytes = 0
value_behind (known (write x)) bytes = long_at bytes 1
value_behind unknown bytes = 0

-- The step at the front of some bytes.
abbrev pub first_step : List ℕ → ScriptStep
first_step bytes = record { code = byte_at bytes 0; value = value_behind (plain_sheet (byte_at bytes 0)) bytes }

-- A step before others, if these could be read.
abbrev pub before : ScriptStep → Option (List ScriptStep) → Option (List ScriptStep)
before step none = none
before step (some steps) = some (step ∷ steps)

-- The steps of the bytes behind so many bytes of value, which are skipped; none where a code is unknown or a write is cut short.
unfoldable pub steps_behind : ℕ → List ℕ → Option (List ScriptStep)
steps_behind zero [] = some []
steps_behind (suc k) [] = none
steps_behind (suc k) (byte ∷ bytes) = steps_behind k bytes
steps_behind zero (code ∷ bytes) =
    let steps = before (first_step (code ∷ bytes)) (steps_behind (value_long (plain_sheet code)) bytes) in
    if is_unknown (plain_sheet code) then none else steps

-- The steps of a script, if it is whole: every code known and no write cut short.
abbrev pub steps_of : List ℕ → Option (List ScriptStep)
steps_of body = steps_behind 0 body

-- The script is whole.
abbrev pub is_whole : List ℕ → Bool
is_whole body = is_found (steps_of body)
