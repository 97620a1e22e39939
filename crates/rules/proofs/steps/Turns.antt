-- What a turn is: a refusal with a number that is given, or a step that is free, taken and reported.
use Prim.Native.Nat.{ℕ}
use native.Mathlib.Omega.{arith}
use mathlib.Core.Path.{◌≡◌, sym, ap, ◌∙◌, subst}
use mathlib.Core.Bool.{Bool}
use mathlib.Core.Logic.{◌↔◌, ◌⊎◌, inl, inr, ⊎_map}
use Rattle.rules.specs.steps.Codes.{Step}
use Rattle.rules.specs.steps.Replies.{Refusal, Report, Reply, reported}
use Rattle.rules.specs.steps.Register.{Setting, Register}
use Rattle.rules.specs.steps.Checks.{Asked}
use Rattle.rules.specs.steps.Given.{Given, Free}
use Rattle.rules.specs.steps.Figure.{step}
use Rattle.rules.specs.steps.Turn.{Turn, taken_turn, refused_turn, asked, step_refusal, turned, turn}
use Rattle.rules.proofs.steps.Given.{Verdict, verdict, given_exactly, free_exactly}

-- A refusal is no other refusal,
refusal_same : {W : Type 0} {a b : Refusal} → ◌≡◌ {A = Reply W} (Reply.refused a) (Reply.refused b) → a ≡ b
refusal_same e = cc

-- and no report.
report_no_refusal : {W : Type 0} (report : Report W) (refusal : Refusal) → reported report ≡ Reply.refused refusal → ⊥
report_no_refusal report refusal e = let z : ◌≡◌ {A = ℕ} 0 1 = cc in omega arith

-- Where each G gives its own refusal, and one G holds or the reply is a report, each refusal is replied exactly when its G holds.
pub refused_exactly : {W : Type 0} {reply : Reply W} (G : Refusal → Type 0) → ((refusal : Refusal) → G refusal → reply ≡ Reply.refused refusal)
    → ((refusal : Refusal) × G refusal) ⊎ ((report : Report W) × (reply ≡ reported report))
    → (refusal : Refusal) → (reply ≡ Reply.refused refusal) ↔ G refusal
refused_exactly {reply = reply} G gives decided refusal = (replied decided, gives refusal)
  where
    replied : ((other : Refusal) × G other) ⊎ ((report : Report _) × (reply ≡ reported report)) → reply ≡ Reply.refused refusal → G refusal
    replied (inl (other, g)) e = subst G (refusal_same (sym (gives other g) ∙ e)) g
    replied (inr (report, q)) e = absurd (report_no_refusal report refusal (sym q ∙ e))

module _ {W : Type 0} (S : Setting W) (n : ℕ) (well_formed : Bool) (r : Register W) (i code : ℕ) (v : W) where
  -- What is asked.
  abbrev what : Asked
  what = asked S n well_formed r i code

  -- The turn that it gets.
  abbrev gets : Turn W
  gets = turn S n well_formed r i code v

  -- A number that is given refuses the step, and nothing is changed.
  pub given_turn : (refusal : Refusal) → Given what refusal → gets ≡ refused_turn r refusal
  unfolding turn step_refusal turned
  given_turn refusal g = rw ((given_exactly what refusal).1 g)

  -- A step that is free is taken.
  pub free_turn : (s : Step) → Free what s → gets ≡ taken_turn S r i code v s
  unfolding turn step_refusal turned
  free_turn s f = rw ((free_exactly what).1 (s, f), f.fits.heard.known)

  -- A step is refused with each number exactly when it is given.
  pub turn_given : (refusal : Refusal) → (gets.reply ≡ Reply.refused refusal) ↔ Given what refusal
  turn_given = refused_exactly (Given what) (λ refusal g. ap (λ t. t.reply) (given_turn refusal g))
      (⊎_map (λ g. g) (λ f. (_, ap (λ t. t.reply) (free_turn f.0 f.1))) (verdict what))

  -- A refused step changes nothing.
  pub refused_unchanged : (refusal : Refusal) → gets.reply ≡ Reply.refused refusal → gets.after ≡ r
  refused_unchanged refusal e = ap (λ t. t.after) (given_turn refusal ((turn_given refusal).0 e))

  -- What holds of every refusal with a number that is given, and of every step that is free and taken, holds of the turn.
  pub turn_cases : (Q : Turn W → Type 0)
      → ((refusal : Refusal) → Given what refusal → Q (refused_turn r refusal))
      → ((s : Step) → Free what s → Q (taken_turn S r i code v s)) → Q gets
  turn_cases Q is_refused is_taken = decides (verdict what)
    where
      decides : Verdict what → Q gets
      decides (inl (refusal, given)) = rw (given_turn refusal given) (is_refused refusal given)
      decides (inr (s, free)) = rw (free_turn s free) (is_taken s free)

  -- What holds of a register, and of what every step that is free leaves, holds of what a turn leaves.
  pub turn_leaves : (P : Register W → Type 0) → P r
      → ((s : Step) → Free what s → P (step S r i s v).after) → P gets.after
  turn_leaves P stays steps = turn_cases (λ t. P t.after) (λ refusal given. stays) steps
