-- Nothing is lost in what a place shows: different things shown are different lines. Each can be read back.
use Prim.Native.Nat.{ℕ}
use mathlib.Core.Path.{◌≡◌, refl, ap}
use mathlib.Core.Option.{Option, none, some}
use Rattle.rules.proofs.Determined.{Determined, determined}
use Rattle.rules.proofs.steps.Numbers.{Injective, read_back}
use Rattle.std.specs.Prelude.{Result, Ok, Err}
use Rattle.replies.specs.declared.Report.{Report}
use Rattle.replies.specs.declared.Refusal.{Refusal}
use Rattle.replies.specs.declared.Refusal.TheVariants.{NotWellFormed}
use Rattle.replies.proofs.Apart.{answer_back, answer_same}
use Rattle.lines.specs.declared.Shown.{Shown}
use Rattle.lines.specs.declared.Shown.TheVariants.{Nothing, NoStep, Asked}
use Rattle.lines.specs.Lines.{Line, line_is}
use Rattle.runs.specs.Stopping.{stops_at, stops_shown}

-- The refusal of an answer; any other where it is none.
refusal_in : Result Report Refusal → Refusal
refusal_in (Err refusal) = refusal
refusal_in (Ok report) = NotWellFormed

-- What is shown, by the line.
shown_back : Option Line → Shown
shown_back none = Nothing
shown_back (some line) = by_code line.code
  where
    by_code : Option ℕ → Shown
    by_code none = NoStep line.handler (refusal_in (answer_back line.reply))
    by_code (some code) = Asked line.handler code (answer_back line.reply)

shown_same : (place : ℕ) (shown : Shown) → shown_back (line_is place shown) ≡ shown
unfolding shown_back refusal_in
shown_same place Nothing = refl
shown_same place (NoStep handler refusal) = ap (λ answer. NoStep handler (refusal_in answer)) (answer_same (Err refusal))
shown_same place (Asked handler code answer) = ap (Asked handler code) (answer_same answer)

-- Different things shown at a place are different lines, or one is none.
pub shown_apart : (place : ℕ) → Injective (line_is place)
shown_apart place = read_back (line_is place) shown_back (shown_same place)

-- ── One outcome ───────────────────────────────────────────────────────

-- A place shows one thing, and leaves one row of cursors and one list of words.
pub place_determined : (place : ℕ) → Determined (line_is place)
place_determined place = determined (shown_apart place)

-- ── Stopping ──────────────────────────────────────────────────────────

-- Whether a run stops at what is shown is the same at every place.
pub stops_anywhere : (place : ℕ) (shown : Shown) → stops_at (line_is place shown) ≡ stops_shown shown
stops_anywhere place Nothing = refl
stops_anywhere place (NoStep handler refusal) = refl
stops_anywhere place (Asked handler code answer) = refl
