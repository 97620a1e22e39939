-- What is left of a whole script: nothing, or a step in front and a whole script behind it.
use Prim.Native.Nat.{ℕ, zero, suc, ◌≤◌}
use mathlib.Core.Path.{◌≡◌, refl, sym}
use mathlib.Core.Bool.{false}
use mathlib.Core.List.{List, [], ◌∷◌}
use mathlib.Core.Option.{Option, none, some, some-injective, some-ne-none}
use native.Mathlib.Omega.{arith}
use lib.ListN.{length, drop}
use Rattle.rules.specs.steps.Codes.{plain_sheet}
use Rattle.rules.specs.steps.Checks.{is_unknown}
use Rattle.rules.proofs.steps.Tables.{by}
use Rattle.schedule.specs.Scripts.{ScriptStep, value_long, first_step, before, steps_behind, steps_of}

-- The steps behind bytes of value: these bytes are there, and the steps are those of what follows.
behind : (k : ℕ) (bytes : List ℕ) (steps : List ScriptStep) → steps_behind k bytes ≡ some steps
    → (k ≤ length bytes) × (steps_of (drop k bytes) ≡ some steps)
unfolding steps_behind
behind zero bytes steps e = (omega arith, e)
behind (suc k) [] steps e = absurd (some-ne-none steps (sym e))
behind (suc k) (byte ∷ bytes) steps e = let rest = behind k bytes steps e in (omega (arith, rest.0), rest.1)

-- A step in front of what is left, and the steps behind it.
pub record InFront (code : ℕ) (bytes : List ℕ) (steps : List ScriptStep) : Type 0 where
  pub rest : List ScriptStep
  pub known : is_unknown (plain_sheet code) ≡ false
  pub stands : steps ≡ first_step (code ∷ bytes) ∷ rest
  pub fits : value_long (plain_sheet code) ≤ length bytes
  pub left : steps_of (drop (value_long (plain_sheet code)) bytes) ≡ some rest

-- A whole script that is not used up has a step in front.
pub in_front_lem : (code : ℕ) (bytes : List ℕ) (steps : List ScriptStep) → steps_of (code ∷ bytes) ≡ some steps → InFront code bytes steps
unfolding steps_behind
in_front_lem code bytes steps e = by (is_unknown (plain_sheet code)) (λ unknown. absurd (some-ne-none steps (sym (rw unknown at e)))) known
  where
    split : (found : Option (List ScriptStep)) → steps_behind (value_long (plain_sheet code)) bytes ≡ found
        → before (first_step (code ∷ bytes)) found ≡ some steps → is_unknown (plain_sheet code) ≡ false → InFront code bytes steps
    split none same e' is = absurd (some-ne-none steps (sym e'))
    split (some rest) same e' is =
        let follows = behind _ bytes rest same in
        record { rest = rest; known = is; stands = sym (some-injective _ _ e'); fits = follows.0; left = follows.1 }

    known : is_unknown (plain_sheet code) ≡ false → InFront code bytes steps
    known is = split (steps_behind (value_long (plain_sheet code)) bytes) refl (rw is at e) is
