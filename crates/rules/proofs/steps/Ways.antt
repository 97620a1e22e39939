-- The registers that a step can leave: the same, one with another handler, or a commit. What holds of each of them holds of
-- what a step leaves, so that a law of every step and every turn is proved by giving the ways and nothing else.
use Prim.Native.Nat.{ℕ, ◌<◌}
use mathlib.Core.Path.{◌≡◌}
use mathlib.Core.Bool.{Bool, false, ◌||◌}
use mathlib.Core.Option.{none}
use Rattle.rules.specs.steps.Codes.{Step, begin, try, give_up, read, write}
use Rattle.rules.specs.steps.Register.{Setting, Register, with_handler}
use Rattle.rules.specs.steps.Given.{Within}
use Rattle.rules.specs.steps.Figure.{wrote, begun, overtaken_cell, spent_cell, aborting, committing, step}
use Rattle.rules.specs.steps.Turn.{turn}
use Rattle.rules.proofs.steps.Steps.{has_taken, torn_at, reading_cases, trying_cases}
use Rattle.rules.proofs.steps.Turns.{turn_leaves}

-- P holds of each register that a step of handler i can leave, each under what is known where it is left.
pub record Ways {W : Type 0} (S : Setting W) (P : Register W → Type 0) (r : Register W) (i : ℕ) : Type 0 where
  pub stays : P r
  pub begins : P (with_handler r i (begun S (r.handlers i)))
  pub writes : (x : ℕ) → x < S.cell_count → (v : W) → P (with_handler r i (wrote (r.handlers i) x v))
  pub reads : (x : ℕ) → x < S.cell_count → (r.handlers i).read_set x || (r.handlers i).written_set x ≡ false
      → torn_at S r (r.handlers i) x ≡ none → P (with_handler r i (has_taken r (r.handlers i) x))
  pub aborts : P (aborting S r i (r.handlers i))
  pub commits : overtaken_cell S r (r.handlers i) ≡ none → spent_cell S r (r.handlers i) ≡ none
      → P (committing S r i (r.handlers i))

module _ {W : Type 0} (S : Setting W) (P : Register W → Type 0) (r : Register W) (i : ℕ) (ways : Ways S P r i) where
  -- What holds of all the ways holds of what a step leaves, if it is of no cell beyond the register's.
  pub step_leaves : (s : Step) → Within S.cell_count s → (v : W) → P (step S r i s v).after
  unfolding step
  step_leaves begin below v = ways.begins
  step_leaves try below v =
      trying_cases S r i (r.handlers i) (λ result. P result.after)
      (λ z stale. ways.aborts) (λ current z full. ways.aborts) ways.commits
  step_leaves give_up below v = ways.aborts
  step_leaves (read x) below v =
      reading_cases S r i (r.handlers i) (λ result. P result.after) x
      (λ copied. ways.stays) (λ first y is_torn. ways.aborts) (ways.reads x below)
  step_leaves (write x) below v = ways.writes x below v

-- A property of registers that each way keeps, for a handler below n, is kept by every such step and by every turn.
module _ {W : Type 0} (S : Setting W) (n : ℕ) (P : Register W → Type 0)
    (keeps : (r : Register W) → P r → (i : ℕ) → i < n → Ways S P r i) where
  -- A step of a handler below n, of no cell beyond the register's, keeps it.
  pub step_keeps : (r : Register W) → P r → (i : ℕ) → i < n → (s : Step) → Within S.cell_count s → (v : W)
      → P (step S r i s v).after
  step_keeps r holds i inside = step_leaves S P r i (keeps r holds i inside)

  -- A turn keeps it, whatever is asked for.
  pub turn_keeps : (r : Register W) → P r → (well_formed : Bool) (i code : ℕ) (v : W) → P (turn S n well_formed r i code v).after
  turn_keeps r holds well_formed i code v =
      turn_leaves S n well_formed r i code v P holds
      (λ s free. step_keeps r holds i free.fits.heard.handler s free.fits.cell v)
