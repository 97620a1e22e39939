-- The judge plays a file's places alongside the register: on the same cursors, place by place, each on its own words.
use Prim.Native.Nat.{ℕ, zero, suc, ◌+◌}
use mathlib.Core.Path.{◌≡◌, refl}
use mathlib.Core.Bool.{true, false}
use mathlib.Core.List.{List}
use mathlib.Core.Option.{Option, some}
use Rattle.rules.specs.steps.Tables.{is_found}
use Rattle.rules.specs.steps.Replies.{Reply}
use Rattle.rules.proofs.steps.Tables.{by, both_ways, or_left, or_right}
use Rattle.ledger.specs.Promises.{reports_commit}
use Rattle.schedule.specs.Scripts.{ScriptStep}
use Rattle.schedule.specs.Taking.{Cursors, Next, rejected, over, refused, taken, next_of, cursors_after}
use Rattle.lines.specs.Lines.{Line, no_step, step_line}
use Rattle.runs.specs.Players.{the_register, the_judge, reply_by}
use Rattle.runs.specs.ByPlaces.{Stretch, in_front, line_for, words_for, places_from}
use Rattle.runs.specs.Stopping.{stops, ever_stops}
use Rattle.runs.proofs.GoesOn.{register_other}
use Rattle.agreement.specs.Agreement.{too_many}
use Rattle.agreement.proofs.Cut.{Cut, none, other, commit, full}
use Rattle.agreement.proofs.Beside.{Beside, Room, judge_full, judge_with_room, judge_other}
use Rattle.agreement.proofs.Beside.{beside_after, room_committed, room_kept}

-- A judged run alongside the register's: the lines with room for so many commits, and the words beside each other where the judge
-- never stops.
pub record Alongside (m n room : ℕ) (judged run : Stretch) : Type 0 where
  pub lines : Cut room judged.lines run.lines
  pub words : ever_stops judged.lines ≡ false → Beside m n run.words judged.words

-- A run with a line in front, if there is one.
abbrev front : Option Line → Stretch → Stretch
front line rest = record { lines = in_front line rest.lines; words = rest.words }

module _ {m n : ℕ} {judged run : Stretch} (line : Line) where
  -- In front of runs alongside each other comes a line of no commit,
  other_front : {room : ℕ} → stops line ≡ false → reports_commit line.reply ≡ false → Alongside m n room judged run
      → Alongside m n room (front (some line) judged) (front (some line) run)
  unfolding ever_stops
  other_front goes_on reports later = record {
    lines = other line goes_on reports later.lines;
    words = λ never. later.words (or_right (stops line) (ever_stops judged.lines) never);
  }

  -- or a commit for which there is room.
  commit_front : {room : ℕ} → stops line ≡ false → reports_commit line.reply ≡ true → Alongside m n room judged run
      → Alongside m n (suc room) (front (some line) judged) (front (some line) run)
  unfolding ever_stops
  commit_front goes_on reports later = record {
    lines = commit line goes_on reports later.lines;
    words = λ never. later.words (or_right (stops line) (ever_stops judged.lines) never);
  }

  -- A commit for which there is none comes in front of any runs, as 33 where the judge plays.
  full_front : is_found line.code ≡ true → reports_commit line.reply ≡ true
      → Alongside m n 0 (front (some (too_many line)) judged) (front (some line) run)
  unfolding ever_stops
  full_front asked reports = record {
    lines = full line asked reports;
    words = λ never. both_ways (rw asked refl) (or_left (stops (too_many line)) (ever_stops judged.lines) never);
  }

module _ {m n : ℕ} {words ledger : List ℕ} (beside : Beside m n words ledger) (place : ℕ) (judged run : Stretch) where
  -- The runs are alongside each other from after a place on, with whatever room there is then,
  abbrev GoOn : Next → Type 0
  GoOn next = (room : ℕ) → Beside m n (words_for the_register words next) (words_for the_judge ledger next)
      → Room room (words_for the_judge ledger next) → Alongside m n room judged run

  -- and with what the place shows in front.
  abbrev Come : ℕ → Next → Type 0
  Come room next =
      Alongside m n room (front (line_for the_judge ledger place next) judged) (front (line_for the_register words place next) run)

  module _ (handler : ℕ) (step : ScriptStep) where
    -- What the register replies to a step,
    abbrev reply : Reply ℕ
    reply = reply_by the_register words handler step

    -- and the line that it shows.
    abbrev line : Line
    line = step_line place handler step.code reply

    -- A step that commits: there is room, or 33.
    commit_alongside : (room : ℕ) → Room room ledger → reports_commit reply ≡ true → GoOn (taken handler step) → Come room (taken handler step)
    unfolding line_for words_for
    commit_alongside zero has reports later = rw (judge_full beside handler step has reports) (full_front line refl reports)
    commit_alongside (suc room) has reports later =
        let alike = judge_with_room beside handler step room has in
        let left = room_committed beside handler step alike room reports has in
        rw alike (commit_front line (register_other words handler step) reports (later room (beside_after beside handler step alike) left))

    -- A step that does not commit.
    other_alongside : (room : ℕ) → Room room ledger → reports_commit reply ≡ false → GoOn (taken handler step) → Come room (taken handler step)
    unfolding line_for words_for
    other_alongside room has reports later =
        let alike = judge_other beside handler step reports in
        let left = room_kept beside handler step alike room reports has in
        rw alike (other_front line (register_other words handler step) reports (later room (beside_after beside handler step alike) left))

  -- Whatever comes next at the place.
  place_alongside : (next : Next) (room : ℕ) → Room room ledger → GoOn next → Come room next
  unfolding line_for words_for
  place_alongside (rejected refusal) room has later = later room beside has
  place_alongside over room has later = later room beside has
  place_alongside (refused handler refusal) room has later = other_front (no_step place handler refusal) refl refl (later room beside has)
  place_alongside (taken handler step) room has later = by (reports_commit (reply_by the_register words handler step))
      (λ reports. commit_alongside handler step room has reports later)
      (λ reports. other_alongside handler step room has reports later)

-- All places, one after another.
pub places_alongside : {m n : ℕ} (file : List ℕ) (count : ℕ) (cursors : Cursors) (place : ℕ) {words ledger : List ℕ} (room : ℕ)
    → Beside m n words ledger → Room room ledger
    → Alongside m n room (places_from the_judge file count cursors place ledger) (places_from the_register file count cursors place words)
unfolding places_from
places_alongside file zero cursors place room beside has = record { lines = none; words = λ never. beside }
places_alongside file (suc count) cursors place room beside has =
    let next = next_of file cursors place in
    place_alongside beside place _ _ next room has (places_alongside file count (cursors_after cursors next) (place + 1))
