-- A step as it is asked for, by any handler and any code: refused by the first check that holds, with nothing changed, or
-- taken as Figure 1 says and reported.
use Rattle.std.specs.Prelude.{ℕ, Bool}
use Rattle.std.proofs.Math.Option.{Option, none, some}
use Rattle.rules.specs.steps.Codes.{Step, Kind, known, unknown}
use Rattle.rules.specs.steps.Replies.{Refusal, unknown_step, Reply, reported}
use Rattle.rules.specs.steps.Register.{Setting, Register, has_open}
use Rattle.rules.specs.steps.Checks.{Asked, asking, first_hit, step_checks}
use Rattle.rules.specs.steps.Figure.{step}

-- The reply to a step, and the register that it leaves.
pub record Turn (W : Type 0) : Type 0 where
  pub reply : Reply W
  pub after : Register W

-- The turn of a step that is taken as Figure 1 says, and reported.
abbrev pub taken_turn : {W : Type 0} → Setting W → Register W → ℕ → ℕ → W → Step → Turn W
taken_turn S r i code v s =
    let result = step S r i s v in
    record { reply = reported (record { handler = i; code = code; outcome = result.outcome }); after = result.after }

-- The turn of a step that is refused: nothing is changed.
abbrev pub refused_turn : {W : Type 0} → Register W → Refusal → Turn W
refused_turn r refusal = record { reply = Reply.refused refusal; after = r }

-- What is asked of a register of S's cells and n handlers by handler i with a code.
abbrev pub asked : {W : Type 0} → Setting W → ℕ → Bool → Register W → ℕ → ℕ → Asked
asked S n well_formed r i code = asking well_formed S.cell_count n i (S.sheet code) (has_open (r.handlers i))

-- What the checks of a step say of it.
unfoldable pub step_refusal : {W : Type 0} → Setting W → ℕ → Bool → Register W → ℕ → ℕ → Option Refusal
step_refusal S n well_formed r i code = first_hit (step_checks (asked S n well_formed r i code))

-- A refusal changes nothing. What no check refuses is taken; a code that stands for no step has none to take.
unfoldable pub turned : {W : Type 0} → Setting W → Register W → ℕ → ℕ → W → Option Refusal → Kind → Turn W
turned S r i code v (some refusal) kind = refused_turn r refusal
turned S r i code v none unknown = refused_turn r unknown_step
turned S r i code v none (known s) = taken_turn S r i code v s

-- The turn of handler i with a step code and a value, on a register of S's cells and n handlers.
unfoldable pub turn : {W : Type 0} → Setting W → ℕ → Bool → Register W → ℕ → ℕ → W → Turn W
turn S n well_formed r i code v = turned S r i code v (step_refusal S n well_formed r i code) (S.sheet code)
