-- Histories of cases, as they are computed by the rules and by the judge: in each of them handler 0 makes a first read at the
-- end, of a register of two cells and four handlers.
use Prim.Native.Nat.{ℕ, ◌+◌}
use mathlib.Core.Path.{◌≡◌}
use mathlib.Core.Bool.{Bool, true, not, ◌&&◌, ◌||◌}
use mathlib.Core.List.{List, [], ◌∷◌}
use lib.Dec.{ltb}
use Rattle.rules.specs.steps.Tables.{put, or_else, lowest, some_below}
use Rattle.rules.specs.steps.Codes.{read, plain_sheet}
use Rattle.rules.specs.steps.Replies.{Outcome, Reply}
use Rattle.rules.specs.steps.Register.{Setting, numbers_under, with_handler, idle, blank, fresh}
use Rattle.rules.specs.steps.Checks.{first_hit, step_checks}
use Rattle.rules.specs.steps.Figure.{joined, taken, wrote, version_shows, shown, stamped, stored, begun, torn_cell, overtaken_cell, spent_cell, aborting}
use Rattle.rules.specs.steps.Figure.{committing, unless_aborted, read_checks, try_checks, first_read, reading, trying, step}
use Rattle.rules.specs.steps.Turn.{step_refusal, turned, turn}
use Rattle.rules.specs.history.History.{Commit, History, some_look, has_read, has_written, writer_among, writer, no_history, doing}
use Rattle.rules.specs.history.History.{read_deed, note_ok, note_shown, ended, note_commit, note_abort, note, note_reply}
use Rattle.rules.specs.history.Past.{has_read_from, in_past, up_to, later, outdated, tears_at}
use Rattle.rules.specs.history.Replay.{after, replay}
use Rattle.rules.specs.demand.Demand.{Ask, State, start, moved, run, reported_to}
use Rattle.rules.specs.demand.Judge.{copied, or_aborted, answer_read, answer}

-- Two cells that are unset at opening.
abbrev pub two : Setting ℕ
two = numbers_under plain_sheet 2

-- Handler i asks to begin,
abbrev pub begins : ℕ → Ask ℕ
begins i = record { handler = i; code = 0; value = 0 }

-- to commit,
abbrev pub tries : ℕ → Ask ℕ
tries i = record { handler = i; code = 1; value = 0 }

-- to give up,
abbrev pub gives : ℕ → Ask ℕ
gives i = record { handler = i; code = 2; value = 0 }

-- to read the cell x,
abbrev pub reads : ℕ → ℕ → Ask ℕ
reads i x = record { handler = i; code = 32 + x; value = 0 }

-- or to write v to it.
abbrev pub writes : ℕ → ℕ → ℕ → Ask ℕ
writes i x v = record { handler = i; code = 64 + x; value = v }

-- The register and the history after these steps; to unfold it is to compute them.
unfoldable pub reached : List (Ask ℕ) → State ℕ
unfolding run start moved fresh blank idle with_handler put or_else lowest some_below turn turned step_refusal plain_sheet
    step_checks first_hit step begun wrote joined taken version_shows shown stamped stored torn_cell overtaken_cell spent_cell aborting committing
    unless_aborted read_checks try_checks first_read reading trying no_history note_reply note note_ok note_shown note_commit note_abort
    doing ended read_deed some_look has_read has_written writer_among writer
reached steps = run two 4 (start two) steps

-- The commits after these steps.
abbrev pub commits_after : List (Ask ℕ) → List (Commit ℕ)
commits_after steps = (reached steps).history.commits

-- The reply to handler 0, which reads x after these steps.
abbrev pub reply_to : List (Ask ℕ) → ℕ → Reply ℕ
reply_to steps x = (turn two 4 true (reached steps).register 0 (32 + x) 0).reply

-- The judge's answer to it, from the history alone; to unfold it is to compute it.
unfoldable pub answer_to : List (Ask ℕ) → ℕ → Outcome ℕ
unfolding answer answer_read or_aborted copied replay after tears_at outdated later up_to in_past has_read_from
answer_to steps x = answer two (reached steps).history 0 (read x)

-- After these steps handler 0's transaction is open, and has neither read nor written the cell x.
unfoldable pub is_first : List (Ask ℕ) → ℕ → Bool
is_first steps x = ltb x 2 && (h.opened 0 && not (has_read (h.now 0) x || has_written (h.now 0) x))
  where
    h : History ℕ
    h = (reached steps).history

-- After these steps handler 0 makes a first read of x, and is answered so by the register and by the judge.
pub record Answered (steps : List (Ask ℕ)) (x : ℕ) (outcome : Outcome ℕ) : Type 0 where
  pub first : is_first steps x ≡ true
  pub reply : reply_to steps x ≡ reported_to 0 (32 + x) outcome
  pub judged : answer_to steps x ≡ outcome

-- Handler 0 reads cell 0, and then handler 1 commits 0 := 5.
unfoldable pub overtakes : List (Ask ℕ)
overtakes = begins 0 ∷ reads 0 0 ∷ begins 1 ∷ writes 1 0 5 ∷ tries 1 ∷ []
