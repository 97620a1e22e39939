-- The lines of a run, and the line that a place shows. It is shown alike whoever runs the file.
use Rattle.std.specs.Prelude.{ℕ}
use Rattle.std.proofs.Math.Option.{Option, none, some}
use Rattle.rules.specs.steps.Replies.{Refusal, Reply}
use Rattle.replies.specs.Meaning.{refusal_is, reply_is}
use Rattle.lines.specs.declared.Shown.{Shown}
use Rattle.lines.specs.declared.Shown.TheVariants.{Nothing, NoStep, Asked}

-- A line: place, handler, step code or none where none was taken, and the reply.
pub record Line : Type 0 where
  pub place : ℕ
  pub handler : ℕ
  pub code : Option ℕ
  pub reply : Reply ℕ

-- The line of a place that is refused, where no step was taken.
abbrev pub no_step : ℕ → ℕ → Refusal → Line
no_step place handler refusal = record { place = place; handler = handler; code = none; reply = Reply.refused refusal }

-- The line of a step that was taken or was refused by the register.
abbrev pub step_line : ℕ → ℕ → ℕ → Reply ℕ → Line
step_line place handler code reply = record { place = place; handler = handler; code = some code; reply = reply }

-- The line of a place, if it shows one.
abbrev pub line_is : ℕ → Shown → Option Line
line_is place Nothing = none
line_is place (NoStep handler refusal) = some (no_step place handler (refusal_is refusal))
line_is place (Asked handler code answer) = some (step_line place handler code (reply_is answer))
