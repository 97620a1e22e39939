-- A turn on a body by its ways: what the checks refuse is refused and changes nothing, and what they let through is taken.
use Prim.Native.Nat.{ℕ, zero, suc, ◌≤◌, ◌<◌}
use native.Mathlib.Omega.{arith}
use mathlib.Core.Path.{◌≡◌, refl, sym, ap, ◌∙◌, subst}
use mathlib.Core.Bool.{true, not}
use mathlib.Core.List.{List}
use mathlib.Core.Option.{none, some}
use lib.Dec.{eqb}
use Rattle.rules.specs.steps.Codes.{Step, Kind, known, Sheet}
use Rattle.rules.specs.steps.Register.{numbers_under, has_open}
use Rattle.rules.specs.steps.Replies.{Refusal, Outcome, Reply, reported}
use Rattle.rules.specs.steps.Checks.{asking, first_hit, Asked, step_checks}
use Rattle.rules.specs.steps.Given.{phase_for, Free}
use Rattle.rules.specs.steps.Figure.{Result}
use Rattle.rules.specs.steps.Turn.{asked, taken_turn, refused_turn}
use Rattle.rules.proofs.steps.Sheets.{step_under}
use Rattle.rules.proofs.steps.Given.{given_exactly, free_exactly}
use Rattle.rules.proofs.steps.Turns.{given_turn, free_turn}
use Rattle.layout.specs.Bits.{bit}
use Rattle.layout.specs.View.{word_setting, view, holding}
use Rattle.layout.specs.WellFormed.{PhasesTo}
use Rattle.layout.proofs.Kept.{view_phases}
use Rattle.promises.specs.Bodies.{body_turn, body_words, BodyPromise}
use Rattle.checks.proofs.OneStep.{of_kind, for_kind}
use Rattle.steps.specs.Takes.{Ready, Takes, WholeBody}

-- A handler of a register whose phases are 0 and 1 is in the phase that a step asks for, by whether it is open.
phased : (m n i : ℕ) (body : List ℕ) → PhasesTo 1 m n body → (s : Step) → i < n → has_open ((view m n body).handlers i) ≡ phase_for s
    → ((view m n body).handlers i).phase ≡ bit (phase_for s)
phased m n i body phases s inside opens =
    by_open ((view m n body).handlers i).phase ((view_phases 1 m n body phases).phase i inside) ∙ ap bit opens
  where
    by_open : (phase : ℕ) → phase ≤ 1 → phase ≡ bit (not (eqb phase 0))
    by_open zero low = refl
    by_open (suc zero) low = refl
    by_open (suc (suc k)) low = absurd (omega arith)

module _ {m n : ℕ} {body : List ℕ} (standing : WholeBody m n body) (handler value : ℕ) (kind : Kind) where
  -- What is asked of the register that the body says, by a kind of step.
  abbrev here : Asked
  here = asking true m n handler kind (has_open ((view m n body).handlers handler))

  -- The step that the checks let through is ready to be taken.
  pub body_ready : first_hit (step_checks here) ≡ none → {step : Step} → kind ≡ known step → Ready m n body handler step
  body_ready e {step} is =
      let (s, free) = (free_exactly here).0 e in
      let inside = free.fits.heard.handler in
      of_kind (Ready m n body handler) (
        s,
        free.fits.heard.known,
        record {
          seated = record { formed = standing.formed; handler = inside; low = omega (arith, standing.most) };
          cell = free.fits.cell;
          phase = phased m n handler body standing.phases s inside free.phase;
        },
      ) step is

  module _ (code : ℕ) (sheet : Sheet) (is : sheet code ≡ kind) where
    -- The checks are asked the same by a code that has this kind.
    same : asked (numbers_under sheet m) n true (view m n body) handler code ≡ here
    same = ap (λ k. asking true m n handler k (has_open ((view m n body).handlers handler))) is

    -- What the checks refuse.
    pub body_stops : (refusal : Refusal) → first_hit (step_checks here) ≡ some refusal
        → BodyPromise sheet m n body handler code value (Reply.refused refusal) body
    unfolding body_turn body_words
    body_stops refusal e =
        let given = (given_exactly _ refusal).0 (ap (λ a. first_hit (step_checks a)) same ∙ e) in
        let turn : body_turn sheet m n body handler code value ≡ refused_turn (view m n body) refusal
        = given_turn (numbers_under sheet m) n true (view m n body) handler code value refusal given in
        record { replied = rw turn; left = rw turn }

    -- What is taken is reported.
    pub body_takes : first_hit (step_checks here) ≡ none → {step : Step} → kind ≡ known step → {outcome : Outcome ℕ} {after : List ℕ}
        → Takes m n body handler step value outcome after
        → BodyPromise sheet m n body handler code value (reported (record { handler = handler; code = code; outcome = outcome })) after
    unfolding body_turn body_words
    body_takes e {step} known_step {outcome} {after} takes =
        let (s, free) = (free_exactly here).0 e in
        let taken = for_kind (λ t. Takes m n body handler t value outcome after) step known_step takes s free.fits.heard.known in
        let result = step_under sheet (word_setting m) (view m n body) handler s value in
        let turn : body_turn sheet m n body handler code value ≡ taken_turn (numbers_under sheet m) (view m n body) handler code value s
        = free_turn (numbers_under sheet m) n true (view m n body) handler code value s (subst (λ a. Free a s) (sym same) free) in
        record {
          replied =
              ap (λ o. reported (record { handler = handler; code = code; outcome = o }))
              (taken.replied ∙ ap (λ (r : Result ℕ). r.outcome) (sym result)) ∙ rw turn;
          left = taken.left ∙ ap (λ (r : Result ℕ). holding body m n r.after) (sym result) ∙ rw turn;
        }
