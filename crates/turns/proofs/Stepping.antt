-- A step on whole words that are known to be a register: what its body promises the words promise.
use Prim.Native.Nat.{ℕ}
use native.Mathlib.Omega.{arith}
use mathlib.Core.Path.{◌≡◌, refl, ap, ◌∙◌}
use mathlib.Core.List.{List, ◌∷◌}
use Rattle.rules.specs.steps.Codes.{plain_sheet}
use Rattle.rules.specs.steps.Register.{Register}
use Rattle.rules.specs.steps.Replies.{Reply, reported}
use Rattle.rules.specs.steps.Turn.{Turn}
use Rattle.layout.specs.Places.{cells_of, handlers_of, body_of}
use Rattle.layout.specs.WellFormed.{WellFormed}
use Rattle.layout.proofs.Kept.{well_long}
use Rattle.layout.proofs.Fronts.{register_front}
use Rattle.layout.proofs.Tested.{tested}
use Rattle.promises.specs.Stepping.{turn_of, step_words, StepPromise}
use Rattle.promises.specs.Bodies.{body_turn, body_words, BodyPromise}
use Rattle.steps.specs.Takes.{WholeBody}

-- Well-formed words have such a body.
pub stands : {words : List ℕ} → WellFormed words → WholeBody (cells_of words) (handlers_of words) (body_of words)
stands w = record { formed = record { good = w.body; few = w.range.cells }; most = w.range.handlers; phases = w.phases }

module _ {words : List ℕ} (formed : WellFormed words) {handler code value : ℕ} where
  -- What the body promises the words promise, with m and n in front.
  pub body_steps : {reply : Reply ℕ} {after : List ℕ}
      → BodyPromise plain_sheet (cells_of words) (handlers_of words) (body_of words) handler code value reply after
      → StepPromise words handler code value reply (cells_of words ∷ handlers_of words ∷ after)
  unfolding turn_of body_turn body_words step_words
  body_steps p =
      let passed = (tested words).1 formed in
      record {
        replied = p.replied ∙ rw passed;
        left = ap (λ body. cells_of words ∷ handlers_of words ∷ body) p.left ∙ fronted taken.reply taken.after ∙ rw passed;
      }
    where
      taken : Turn ℕ
      taken = body_turn plain_sheet (cells_of words) (handlers_of words) (body_of words) handler code value

      fronted : (reply : Reply ℕ) (r : Register ℕ)
          → cells_of words ∷ handlers_of words ∷ body_words (cells_of words) (handlers_of words) (body_of words) reply r ≡ step_words words reply r
      fronted (Reply.refused refusal) r = register_front words (omega (arith, well_long formed))
      fronted (reported report) r = refl
