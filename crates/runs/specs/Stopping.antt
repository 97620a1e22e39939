-- Where a run stops: at the line of a step that is refused with 33, as only the judge refuses one.
use Rattle.std.specs.Prelude.{ℕ, Bool, false, ◌||◌, List, [], ◌∷◌, eqb, if◌then◌else◌}
use Rattle.std.proofs.Math.Option.{Option, none, some}
use Rattle.rules.specs.Promise.{Promise, answering}
use Rattle.rules.specs.steps.Tables.{is_found}
use Rattle.rules.specs.steps.Replies.{refusal_number, Reply, reported}
use Rattle.lines.specs.Lines.{Line, line_is}
use Rattle.lines.specs.declared.Shown.{Shown}

-- The reply is the refusal 33.
abbrev pub says_too_many : Reply ℕ → Bool
says_too_many (reported report) = false
says_too_many (Reply.refused refusal) = eqb (refusal_number refusal) 33

-- A run stops at the line of a step that is refused with 33.
abbrev pub stops : Line → Bool
stops line = if is_found line.code then (says_too_many line.reply) else false

-- It stops at the line that a place shows, if the place shows one.
abbrev pub stops_at : Option Line → Bool
stops_at none = false
stops_at (some line) = stops line

-- A run stops at what a place shows; which place it is makes no difference (`stops_anywhere`).
abbrev pub stops_shown : Shown → Bool
stops_shown shown = stops_at (line_is 0 shown)

-- The promise of the question whether a run stops at what a place shows.
abbrev pub StopPromise : Shown → Bool → Type 0
StopPromise shown reply = Promise (answering stops_shown) shown reply tt

-- The lines up to the one at which a run stops.
unfoldable pub until_stop : List Line → List Line
until_stop [] = []
until_stop (line ∷ lines) = if stops line then (line ∷ []) else (line ∷ until_stop lines)

-- A run stops at some line.
unfoldable pub ever_stops : List Line → Bool
ever_stops [] = false
ever_stops (line ∷ lines) = stops line || ever_stops lines
