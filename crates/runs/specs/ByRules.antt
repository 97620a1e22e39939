-- The run of a file by the rules: its lines, and the register at the end. Scripts are lists of steps here; ByPlaces.antt says the
-- same of bytes and words.
use Rattle.std.specs.Prelude.{ℕ, ◌+◌, true, List, [], ◌∷◌, leb, if◌then◌else◌}
use Rattle.std.proofs.Math.Option.{Option, none, some}
use Rattle.rules.specs.steps.Tables.{put}
use Rattle.rules.specs.steps.Replies.{Refusal, no_handler, used_up}
use Rattle.rules.specs.steps.Register.{Register, fresh}
use Rattle.rules.specs.steps.Turn.{turn}
use Rattle.layout.specs.View.{word_setting}
use Rattle.schedule.specs.Sound.{script_in, order_in}
use Rattle.schedule.specs.Scripts.{ScriptStep, steps_of}
use Rattle.schedule.specs.Admitting.{Admission, admission_of}
use Rattle.lines.specs.Lines.{Line, no_step, step_line}

-- Where a run stands: of each handler the steps that are not used up, and the register.
pub record RunState : Type 0 where
  pub left : ℕ → List ScriptStep
  pub register : Register ℕ

-- One order place: its line, and where the run stands afterwards.
pub record PlaceRun : Type 0 where
  pub line : Line
  pub after : RunState

-- A run: its lines, and the register at the end.
pub record Run : Type 0 where
  pub lines : List Line
  pub register : Register ℕ

module _ (m n : ℕ) where
  -- The handler's next step is asked of the register and used up, also where the register refuses it; without one, 32.
  unfoldable pub next_asked : RunState → ℕ → ℕ → List ScriptStep → PlaceRun
  next_asked s place handler [] = record { line = no_step place handler used_up; after = s }
  next_asked s place handler (step ∷ steps) =
      let t = turn (word_setting m) n true s.register handler step.code step.value in
      let after : RunState = record { left = put s.left handler steps; register = t.after } in
      record { line = step_line place handler step.code t.reply; after = after }

  -- An order byte names the handler whose next step is taken; 11 for handler n or above.
  unfoldable pub ordered : RunState → ℕ → ℕ → PlaceRun
  ordered s place handler =
      if leb n handler then (record { line = no_step place handler no_handler; after = s })
      else (next_asked s place handler (s.left handler))

  -- The run of the order bytes from a place on.
  unfoldable pub run_from : RunState → ℕ → List ℕ → Run
  run_from s place [] = record { lines = []; register = s.register }
  run_from s place (handler ∷ order) =
      let here = ordered s place handler in
      let rest = run_from here.after (place + 1) order in
      record { lines = here.line ∷ rest.lines; register = rest.register }

-- The steps that were read, none where they could not be.
abbrev pub steps_found : Option (List ScriptStep) → List ScriptStep
steps_found none = []
steps_found (some steps) = steps

-- Before the first step: every script whole, and a fresh register.
unfoldable pub started : List ℕ → ℕ → RunState
started file m = record { left = λ handler. steps_found (steps_of (script_in file handler)); register = fresh (word_setting m) }

-- What a file comes to: n, m and a run, or the one refusal.
pub data Played : Type 0 where
  ran : ℕ → ℕ → Run → Played
  refused : Refusal → Played

-- What an admitted file comes to; a refused one runs nothing.
unfoldable pub played_by : List ℕ → Admission → Played
played_by file (Admission.refused refusal) = Played.refused refusal
played_by file (Admission.sound n m) = ran n m (run_from m n (started file m) 0 (order_in file))

-- What every file comes to.
unfoldable pub run_of : List ℕ → Played
run_of file = played_by file (admission_of file)
