-- Scripts step by step: what stands in front decides whether the rest is read, and the reading goes on behind it.
use Rattle.std.proofs.Common.{ℕ, zero, suc, ◌≡◌, ◌≤◌, ◌<◌, true, false, List, [], ◌∷◌, length, drop, eqb, leb, ltb, refl, sym, ap, ◌∙◌, arith}
use Rattle.std.proofs.Math.Option.{Option, none, some, some-ne-none}
use borrow.Author.Tests.{leb-false, ltb-true, lt-leb, ne_eqb}
use Rattle.rules.specs.steps.Tables.{is_found}
use Rattle.rules.specs.steps.Codes.{plain_sheet}
use Rattle.rules.specs.steps.Replies.{Refusal, used_up, unknown_step}
use Rattle.rules.specs.steps.Checks.{first_hit, is_unknown}
use Rattle.rules.proofs.steps.Given.{none_holds}
use Rattle.rules.proofs.steps.Tables.{by, or_left}
use Rattle.schedule.specs.Bytes.{byte_at}
use Rattle.schedule.specs.Scripts.{ScriptStep, value_long, first_step, before, steps_behind, steps_of, is_whole}
use Rattle.schedule.specs.Taking.{step_long, is_spoilt, left_checks}
use Rattle.schedule.specs.Fronts.{StepInFront}

-- ── Behind bytes of value ─────────────────────────────────────────────

-- Bytes of value are skipped,
skipped : (k : ℕ) (bytes : List ℕ) → k ≤ length bytes → steps_behind k bytes ≡ steps_of (drop k bytes)
unfolding steps_behind
skipped zero bytes h = refl
skipped (suc k) [] h = absurd (omega arith)
skipped (suc k) (byte ∷ bytes) h = skipped k bytes (omega arith)

-- and with too few of them the script is cut short.
cut : (k : ℕ) (bytes : List ℕ) → length bytes < k → steps_behind k bytes ≡ none
unfolding steps_behind
cut zero bytes h = absurd (omega arith)
cut (suc k) [] h = refl
cut (suc k) (byte ∷ bytes) h = cut k bytes (omega arith)

-- ── What stands in front ──────────────────────────────────────────────

-- Nothing is read behind an unknown code,
pub steps_unknown : (left : List ℕ) → 0 < length left → is_unknown (plain_sheet (byte_at left 0)) ≡ true → steps_of left ≡ none
unfolding steps_behind
steps_unknown [] filled e = absurd (omega arith)
steps_unknown (code ∷ bytes) filled e = rw e

-- nor where a write is cut short.
pub steps_cut : (left : List ℕ) → 0 < length left → is_unknown (plain_sheet (byte_at left 0)) ≡ false → length left < step_long left
    → steps_of left ≡ none
unfolding steps_behind
steps_cut [] filled e short = absurd (omega arith)
steps_cut (code ∷ bytes) filled e short = rw (e, cut (value_long (plain_sheet code)) bytes (omega arith))

-- A step that stands in front is read, and then what is behind it.
pub steps_next : (left : List ℕ) → 0 < length left → is_unknown (plain_sheet (byte_at left 0)) ≡ false → step_long left ≤ length left
    → steps_of left ≡ before (first_step left) (steps_of (drop (step_long left) left))
unfolding steps_behind
steps_next [] filled e fits = absurd (omega arith)
steps_next (code ∷ bytes) filled e fits =
    let skips = skipped (value_long (plain_sheet code)) bytes (omega arith) in
    let behind : step_long (code ∷ bytes) ≡ suc (value_long (plain_sheet code)) = omega arith in
    rw (e, skips, behind)

-- A step before others changes nothing in whether they could be read.
found_before : (step : ScriptStep) (steps : Option (List ScriptStep)) → is_found (before step steps) ≡ is_found steps
found_before step none = refl
found_before step (some steps) = refl

-- ── By what stands in front ───────────────────────────────────────────

-- A script is whole just when what is behind the step in front is.
pub whole_on : {left : List ℕ} {code value long : ℕ} → StepInFront left code value long → is_whole left ≡ is_whole (drop long left)
unfolding left_checks
whole_on {left} stands =
    let (filled, passes) = (none_holds used_up (leb (length left) 0) _).0 stands.passes in
    let kept = (none_holds unknown_step (is_spoilt left) []).0 passes in
    let known_there = or_left _ (ltb (length left) (step_long left)) kept.0 in
    ap is_found (steps_next left (leb-false _ 0 filled) known_there (omega (arith, stands.takes, stands.fits)))
    ∙ found_before (first_step left) (steps_of (drop (step_long left) left)) ∙ ap (λ long. is_whole (drop long left)) (sym stands.takes)

-- Where no step stands in front, it is whole just when nothing is left.
pub whole_ends : (left : List ℕ) {refusal : Refusal} → first_hit (left_checks left) ≡ some refusal → eqb (length left) 0 ≡ is_whole left
unfolding left_checks first_hit steps_behind
whole_ends [] stops = refl
whole_ends (code ∷ bytes) {refusal} stops =
    ne_eqb (length left) 0 (λ e. omega arith) ∙ sym (ap is_found (by (is_unknown (plain_sheet code))
    (steps_unknown left filled)
    (λ known. by (ltb (length left) (step_long left))
    (λ short. steps_cut left filled known (ltb-true _ _ short))
    (λ fits. absurd (some-ne-none refusal (sym stops ∙ rw (lt-leb (length left) 0 filled, known, fits)))))))
  where
    left : List ℕ
    left = code ∷ bytes

    filled : 0 < length left
    filled = omega arith
