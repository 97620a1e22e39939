-- Figure 1's steps look at no code: under another sheet the same step comes to the same.
use Prim.Native.Nat.{ℕ}
use mathlib.Core.Path.{◌≡◌, refl}
use Rattle.rules.specs.steps.Codes.{Step, begin, try, give_up, read, write, Sheet}
use Rattle.rules.specs.steps.Register.{Setting, Register, idle}
use Rattle.rules.specs.steps.Figure.{begun, torn_cell, overtaken_cell, spent_cell, aborting, committing, unless_aborted, read_checks, try_checks}
use Rattle.rules.specs.steps.Figure.{first_read, reading, trying, step}

-- The same setting under another sheet.
abbrev pub under : {W : Type 0} → Sheet → Setting W → Setting W
under sheet S = record { empty = S.empty; cell_count = S.cell_count; sheet = sheet }

-- A step under another sheet.
pub step_under : {W : Type 0} (sheet : Sheet) (S : Setting W) (r : Register W) (i : ℕ) (s : Step) (v : W)
    → step (under sheet S) r i s v ≡ step S r i s v
unfolding step trying reading first_read try_checks read_checks unless_aborted committing aborting spent_cell overtaken_cell torn_cell begun idle
step_under sheet S r i begin v = refl
step_under sheet S r i try v = refl
step_under sheet S r i give_up v = refl
step_under sheet S r i (read x) v = refl
step_under sheet S r i (write x) v = refl
