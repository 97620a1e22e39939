-- `register::words_needed` meets its contract: the length where m and n are in range, and else nothing.
use mathlib.Core.Path.{◌≡◌, refl, sym, ap, ◌∙◌}
use mathlib.Core.Bool.{true}
use mathlib.Core.Option.{some}
use Prim.Native.Nat.{◌+◌}
use native.Mathlib.Omega.{arith}
use Rattle.rules.specs.steps.Checks.{in_range}
use Rattle.layout.proofs.Places.{body_small}
use Rattle.rules.proofs.steps.Given.{range_tested}
use Rattle.promises.specs.Lengths.{length_for}
use Rattle.register.proofs.words_needed.Goals as goal
use Rattle.register.proofs.words_needed.Goals.{Else-not-in_range}

pub returns-then-not-in_range : goal.returns-then-not-in_range
unfolding length_for
returns-then-not-in_range c = record { replied = rw (sym c.in_range.ensures.replied ∙ c.if-not-in_range.true); left = refl }

-- m and n are in range.
ranged : (c : Else-not-in_range) → in_range c.args.m c.args.n ≡ true
ranged c = sym c.in_range.ensures.replied ∙ c.if-not-in_range.false

pub returns : goal.returns
unfolding length_for
returns c = record { replied = rw (ranged (goal.at.returns c).Else-not-in_range) (ap (λ k. some (2 + k)) c.body_words.ensures); left = refl }

pub body_words-requires : goal.body_words-requires
body_words-requires c = omega (arith, (range_tested _ _).0 (ranged (goal.at.body_words-requires c).Else-not-in_range))

pub overflow_add-result : goal.overflow_add-result
overflow_add-result c = let args = c.args in
    omega (
      arith,
      c.body_words.ensures,
      body_small args.m args.n
          (omega (arith, (range_tested _ _).0 (ranged (goal.at.overflow_add-result c).Else-not-in_range)))
          (omega (arith, (range_tested _ _).0 (ranged (goal.at.overflow_add-result c).Else-not-in_range))),
    )
