-- On every schedule that is not refused, the judge's lines are the runner's up to a 65th commit: there stands 33, and nothing comes
-- after. If there is none, the judge shows the same cells at the end.
use Rattle.std.specs.Prelude.{ℕ, zero, suc, ◌<◌, ◌≡◌, false, List, [], ◌∷◌, length, ltb, if◌then◌else◌}
use Rattle.std.proofs.Math.Option.{some}
use Rattle.rules.specs.steps.Replies.{too_many_commits, Reply, ready}
use Rattle.replies.specs.Ends.{cell_line}
use Rattle.ledger.specs.Promises.{reports_commit, LedgerPromise}
use Rattle.schedule.specs.Sound.{order_in}
use Rattle.schedule.specs.Taking.{at_start}
use Rattle.judge.specs.Ending.{judged_end}
use Rattle.lines.specs.Lines.{Line}
use Rattle.runs.specs.ByRules.{Run, ran, run_of}
use Rattle.runs.specs.Players.{the_judge}
use Rattle.runs.specs.ByPlaces.{places_from, Stretch}
use Rattle.runs.specs.Stopping.{until_stop, ever_stops}

-- ── The runner's lines, cut ───────────────────────────────────────────

-- The line with 33 for its reply.
abbrev pub too_many : Line → Line
too_many line = record { place = line.place; handler = line.handler; code = line.code; reply = Reply.refused too_many_commits }

-- The lines up to a commit for which there is no room: there stands 33, and nothing comes after.
unfoldable pub cut_after : ℕ → List Line → List Line
cut_after room [] = []
cut_after zero (line ∷ lines) = if reports_commit line.reply then (too_many line ∷ []) else (line ∷ cut_after zero lines)
cut_after (suc room) (line ∷ lines) =
    line ∷ (if reports_commit line.reply then (cut_after room lines) else (cut_after (suc room) lines))

-- How many commits the lines report.
unfoldable pub commits_among : List Line → ℕ
commits_among [] = 0
commits_among (line ∷ lines) = if reports_commit line.reply then (suc (commits_among lines)) else (commits_among lines)

-- ── The agreement ─────────────────────────────────────────────────────

-- What the judge makes of a file on words of its own: its places one after another.
abbrev pub judged_from : List ℕ → List ℕ → Stretch
judged_from file words = places_from the_judge file (length (order_in file)) at_start 0 words

-- A judged run and the runner's run of m cells:
pub record Agree (m : ℕ) (judged : Stretch) (run : Run) : Type 0 where
  -- the judge's lines, up to the one at which it stops, are the runner's, cut at a 65th commit;
  pub lines : until_stop judged.lines ≡ cut_after 64 run.lines
  -- it stops exactly when the runner reports more than 64 commits;
  pub stopped : ever_stops judged.lines ≡ ltb 64 (commits_among run.lines)
  -- where it stops at no line, it shows each cell as the runner does
  pub cells : ever_stops judged.lines ≡ false → (c : ℕ) → c < m
      → judged_end judged.words c ≡ some (cell_line c (run.register.cells c))

-- THE JUDGE AGREES with the runner, on every file that is run, and on all words that are opened for the judge.
abbrev pub JudgeAgrees : Type 0
JudgeAgrees = (file : List ℕ) (n m : ℕ) (run : Run) (before words : List ℕ) → run_of file ≡ ran n m run
    → LedgerPromise before m n ready words → Agree m (judged_from file words) run
