-- `judge::open` meets its promise: 20, 21, or a fresh ledger in front of the words.
use Rattle.std.proofs.Common.{◌≡◌, sym, ◌∙◌, true, arith, length-set}
use Rattle.rules.specs.steps.Given.{wrong_counts}
use Rattle.rules.specs.steps.Replies.{out_of_range}
use Rattle.rules.specs.steps.Checks.{in_range}
use Rattle.rules.proofs.steps.Tables.{both_ways}
use Rattle.rules.proofs.steps.Given.{range_tested}
use Rattle.judge.proofs.Opening.{ledger_stops, ledger_opens}
use Rattle.judge.proofs.open.Goals as goal
use Rattle.judge.proofs.open.Goals.{Else-not-in_range}

-- m and n are in range.
ranged : (c : Else-not-in_range) → in_range c.args.m c.args.n ≡ true
ranged c = sym c.in_range.ensures.replied ∙ c.if-not-in_range.false

pub returns-then-not-in_range : goal.returns-then-not-in_range
returns-then-not-in_range c = let out = sym c.in_range.ensures.replied ∙ c.if-not-in_range.true in
    ledger_stops _ _ _ out_of_range (wrong_counts (λ inside. both_ways ((range_tested _ _).1 inside) out))

pub bounds-words-1 : goal.bounds-words-1
bounds-words-1 c = simp length-set (omega (arith, c.clear.ensures.untouched.size))

pub returns : goal.returns
returns c = ledger_opens _ _ _ _ (omega arith) c.clear.ensures (ranged (goal.at.returns c).Else-not-in_range)
