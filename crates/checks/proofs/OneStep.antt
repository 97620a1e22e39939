-- The kind of a code stands for one step at most: what is known of one step with that kind is known of all.
use Prim.Native.Nat.{ℕ}
use native.Mathlib.Omega.{arith}
use mathlib.Core.Path.{◌≡◌, subst}
use Rattle.rules.specs.steps.Codes.{Step, Kind, known, unknown}

-- The kind of a code stands for one step.
one_step : {kind : Kind} {s t : Step} → kind ≡ known s → kind ≡ known t → s ≡ t
one_step {kind} {s} {t} p q = cc

-- What is unknown stands for no step.
pub no_step_lem : {kind : Kind} (s : Step) → kind ≡ unknown → kind ≡ known s → ⊥
no_step_lem s e f = let z : ◌≡◌ {A = ℕ} 0 1 = cc in omega arith

module _ (Q : Step → Type 0) {kind : Kind} where
  -- What holds of the step of the kind holds of this one,
  pub of_kind : (s : Step) × (kind ≡ known s) × Q s → (t : Step) → kind ≡ known t → Q t
  of_kind (s, e, holds) t f = subst Q (one_step e f) holds

  -- and what holds of this one holds of that of the kind.
  pub for_kind : (t : Step) → kind ≡ known t → Q t → (s : Step) → kind ≡ known s → Q s
  for_kind t e holds s f = subst Q (one_step e f) holds
