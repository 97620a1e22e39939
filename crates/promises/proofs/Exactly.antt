-- Each refusal is given exactly when its condition holds and no earlier one does, and then no word is changed.
use Prim.Native.Nat.{ℕ}
use native.Mathlib.Omega.{arith}
use mathlib.Core.Path.{◌≡◌, sym, ◌∙◌}
use mathlib.Core.List.{List}
use mathlib.Core.Logic.{◌↔◌}
use mathlib.Core.Option.{Option, none, some, some-ne-none}
use lib.ListN.{length}
use Rattle.rules.specs.steps.Replies.{Refusal, Reply, Opening}
use Rattle.rules.specs.steps.Checks.{first_hit, opening_checks}
use Rattle.rules.specs.steps.Given.{Given, OpeningGiven}
use Rattle.rules.proofs.steps.Given.{opening_exactly}
use Rattle.rules.proofs.steps.Turns.{turn_given}
use Rattle.layout.specs.Places.{size}
use Rattle.promises.specs.Opening.{opening_refusal, opening_reply, opening_words, OpeningPromise}
use Rattle.promises.specs.Stepping.{asked_of, turn_of, step_words, StepPromise}

-- ── Opening ───────────────────────────────────────────────────────────

-- An opening is replied to with a refusal just when its checks say that refusal.
pub opening_said : (o : Option Refusal) (refusal : Refusal) → (opening_reply o ≡ Opening.refused refusal) ↔ (o ≡ some refusal)
unfolding opening_reply
opening_said none refusal = (
  λ e. absurd (let z : ◌≡◌ {A = ℕ} 0 1 = cc in omega arith),
  λ e. absurd (some-ne-none refusal (sym e)),
)
opening_said (some other) refusal = (λ e. cc, λ e. cc)

-- Of so many words, where so many are needed, a reply that the checks give is each refusal exactly then.
pub opening_given : (m n long need : ℕ) {reply : Opening} → reply ≡ opening_reply (first_hit (opening_checks m n long need))
    → (refusal : Refusal) → (reply ≡ Opening.refused refusal) ↔ OpeningGiven m n long need refusal
opening_given m n long need replied refusal =
    let said = opening_said (first_hit (opening_checks m n long need)) refusal in
    let given = opening_exactly m n long need refusal in
    (λ e. given.0 (said.0 (sym replied ∙ e)), λ g. replied ∙ said.1 (given.1 g))

-- An opening is refused with each number exactly then.
pub opening_refused : {words : List ℕ} {m n : ℕ} {reply : Opening} {after : List ℕ} → OpeningPromise words m n reply after
    → (refusal : Refusal) → (reply ≡ Opening.refused refusal) ↔ OpeningGiven m n (length words) (size m n) refusal
unfolding opening_refusal
opening_refused {words} {m} {n} p = opening_given m n (length words) (size m n) p.replied

-- A refused opening changes no word.
pub opening_unchanged : {words : List ℕ} {m n : ℕ} {reply : Opening} {after : List ℕ} → OpeningPromise words m n reply after
    → (refusal : Refusal) → reply ≡ Opening.refused refusal → after ≡ words
unfolding opening_words
opening_unchanged {words} {m} {n} p refusal e =
    let refused = (opening_said (opening_refusal words m n) refusal).0 (sym p.replied ∙ e) in
    p.left ∙ rw refused

-- ── A step ────────────────────────────────────────────────────────────

-- A step is refused with each number exactly then.
pub step_refused : {words : List ℕ} {handler code value : ℕ} {reply : Reply ℕ} {after : List ℕ} → StepPromise words handler code value reply after
    → (refusal : Refusal) → (reply ≡ Reply.refused refusal) ↔ Given (asked_of words handler code) refusal
unfolding turn_of
step_refused p refusal =
    let given = turn_given _ _ _ _ _ _ _ refusal in
    (λ e. given.0 (sym p.replied ∙ e), λ g. p.replied ∙ given.1 g)

-- A refused step changes no word.
pub step_unchanged : {words : List ℕ} {handler code value : ℕ} {reply : Reply ℕ} {after : List ℕ} → StepPromise words handler code value reply after
    → (refusal : Refusal) → reply ≡ Reply.refused refusal → after ≡ words
unfolding step_words
step_unchanged p refusal e = p.left ∙ rw (sym p.replied ∙ e)
