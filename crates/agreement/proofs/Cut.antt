-- The judge's lines beside the runner's, with room for so many commits: they are the same up to a commit for which there is no room.
-- What the agreement says of lines follows from that.
use Prim.Native.Nat.{ℕ, zero, suc}
use native.Mathlib.Omega.{arith}
use mathlib.Core.Path.{◌≡◌, refl, sym, ap}
use mathlib.Core.Bool.{true, false}
use mathlib.Core.List.{List, [], ◌∷◌}
use lib.Dec.{ltb, leb-suc-suc}
use borrow.Author.Tests.{lt-ltb, le-ltb}
use Rattle.rules.specs.steps.Tables.{is_found}
use Rattle.ledger.specs.Promises.{reports_commit}
use Rattle.lines.specs.Lines.{Line}
use Rattle.runs.specs.Stopping.{stops, until_stop, ever_stops}
use Rattle.agreement.specs.Agreement.{too_many, cut_after, commits_among}

-- The judge's lines and the runner's, with room for so many commits.
pub data Cut : ℕ → List Line → List Line → Type 0 where
  -- neither has one;
  none : {room : ℕ} → Cut room [] []
  -- both have the same, and it reports no commit;
  other : {room : ℕ} {judged run : List Line} (line : Line) → stops line ≡ false → reports_commit line.reply ≡ false
      → Cut room judged run → Cut room (line ∷ judged) (line ∷ run)
  -- both have the same, and it reports a commit for which there is room;
  commit : {room : ℕ} {judged run : List Line} (line : Line) → stops line ≡ false → reports_commit line.reply ≡ true
      → Cut room judged run → Cut (suc room) (line ∷ judged) (line ∷ run)
  -- the runner has a commit for which there is no room, and the judge 33
  full : {judged run : List Line} (line : Line) → is_found line.code ≡ true → reports_commit line.reply ≡ true
      → Cut 0 (too_many line ∷ judged) (line ∷ run)

-- A line that reports no commit takes no room.
cut_other : (room : ℕ) (line : Line) (lines : List Line) → reports_commit line.reply ≡ false
    → cut_after room (line ∷ lines) ≡ line ∷ cut_after room lines
unfolding cut_after
cut_other zero line lines reports = rw reports
cut_other (suc room) line lines reports = rw reports

-- The judge's lines, up to the one at which it stops, are the runner's, cut.
pub cut_lines : {room : ℕ} {judged run : List Line} → Cut room judged run → until_stop judged ≡ cut_after room run
unfolding until_stop cut_after
cut_lines none = refl
cut_lines (other {room = room} {run = run} line goes_on reports rest) =
    rw (goes_on, cut_other room line run reports) (ap (λ lines. line ∷ lines) (cut_lines rest))
cut_lines (commit line goes_on reports rest) = rw (goes_on, reports) (ap (λ lines. line ∷ lines) (cut_lines rest))
cut_lines (full line asked reports) = rw (asked, reports)

-- The judge stops exactly when the runner reports more commits than there is room for.
pub cut_stops : {room : ℕ} {judged run : List Line} → Cut room judged run → ever_stops judged ≡ ltb room (commits_among run)
unfolding ever_stops commits_among
cut_stops (none {room = room}) = sym (le-ltb room 0 (omega arith))
cut_stops (other line goes_on reports rest) = rw (goes_on, reports) (cut_stops rest)
cut_stops (commit line goes_on reports rest) = rw (goes_on, reports, leb-suc-suc) (cut_stops rest)
cut_stops (full {run = run} line asked reports) = rw (asked, reports) (sym (lt-ltb 0 (suc (commits_among run)) (omega arith)))
