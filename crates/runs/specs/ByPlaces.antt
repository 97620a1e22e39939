-- The run of a file over bytes and words: one order place on cursors and the words of whatever answers its steps, and places one
-- after another.
use Rattle.std.specs.Prelude.{ℕ, zero, suc, ◌+◌, ◌≡◌, List, [], ◌∷◌}
use Rattle.std.proofs.Math.Option.{Option, none, some}
use Rattle.rules.specs.Promise.{Due, Promise}
use Rattle.schedule.specs.Taking.{Cursors, Next, rejected, over, refused, taken, next_of, cursors_after}
use Rattle.lines.specs.declared.Shown.{Shown}
use Rattle.lines.specs.Lines.{Line, no_step, step_line, line_is}
use Rattle.runs.specs.Players.{Player, reply_by, words_by}

-- Lines, and the words at the end.
pub record Stretch : Type 0 where
  pub lines : List Line
  pub words : List ℕ

-- A line in front of others, if there is one.
abbrev pub in_front : Option Line → List Line → List Line
in_front none lines = lines
in_front (some line) lines = line ∷ lines

module _ (player : Player) where
  -- The line of a place, if there is one: a file that is refused has none, nor has a place beyond the order.
  unfoldable pub line_for : List ℕ → ℕ → Next → Option Line
  line_for words place (rejected refusal) = none
  line_for words place over = none
  line_for words place (refused handler refusal) = some (no_step place handler refusal)
  line_for words place (taken handler step) = some (step_line place handler step.code (reply_by player words handler step))

  -- The words after a place: what a step that is taken leaves, and else as they were.
  unfoldable pub words_for : List ℕ → Next → List ℕ
  words_for words (rejected refusal) = words
  words_for words over = words
  words_for words (refused handler refusal) = words
  words_for words (taken handler step) = words_by player words handler step

  -- So many order places, one after another.
  unfoldable pub places_from : List ℕ → ℕ → Cursors → ℕ → List ℕ → Stretch
  places_from file zero cursors place words = record { lines = []; words = words }
  places_from file (suc count) cursors place words =
      let next = next_of file cursors place in
      let rest = places_from file count (cursors_after cursors next) (place + 1) (words_for words next) in
      record { lines = in_front (line_for words place next) rest.lines; words = rest.words }

-- What the function inside this crate says of what comes next: the line that is shown, wherever the place, and the words afterwards.
pub record NextShown (player : Player) (words : List ℕ) (next : Next) (shown : Shown) (after : List ℕ) : Type 0 where
  pub line : (place : ℕ) → line_is place shown ≡ line_for player words place next
  pub left : after ≡ words_for player words next

-- What one order place is given: the file, the cursors, the place, and the player's words.
pub record PlaceCall : Type 0 where
  pub file : List ℕ
  pub cursors : Cursors
  pub place : ℕ
  pub words : List ℕ

-- What it leaves: the cursors and the player's words.
pub record PlaceLeft : Type 0 where
  pub cursors : Cursors
  pub words : List ℕ

-- What one order place comes to: its line, if there is one, and what is left.
abbrev pub playing : Player → PlaceCall → Due (Option Line) PlaceLeft
playing player call =
    let next = next_of call.file call.cursors call.place in
    let left : PlaceLeft = record { cursors = cursors_after call.cursors next; words = words_for player call.words next } in
    record { reply = line_for player call.words call.place next; leaves = left }

-- The promise of one order place.
abbrev pub PlacePromise : Player → List ℕ → Cursors → ℕ → List ℕ → Option Line → Cursors → List ℕ → Type 0
PlacePromise player file cursors place words line cursors_left words_left =
    Promise (playing player) (record { file = file; cursors = cursors; place = place; words = words }) line
    (record { cursors = cursors_left; words = words_left })
