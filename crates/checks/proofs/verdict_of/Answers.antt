-- `checks::verdict_of` meets its promise: the checks are asked in their order, and the first that holds answers.
use Rattle.std.proofs.Common.{◌≡◌, Bool, sym, ap, ◌∙◌}
use Rattle.checks.specs.Meaning.{step_is, kind_is}
use Rattle.checks.proofs.Refusing.{Says, phased, stops_15, stops_11, stops_12, stops_phased}
use Rattle.checks.proofs.verdict_of.Goals as goal
use Rattle.checks.proofs.verdict_of.Goals.{After-is_begin}

-- Past the third check the phase decides.
by_phase : (c : After-is_begin) {begins stands : Bool} → c.is_begin.result ≡ begins → c.args.opened ≡ stands
    → let args = c.args in Says args.m args.n args.handler args.opened (kind_is args.kind) (phased (step_is c.in-Some.step) begins stands)
by_phase c is_one stood = let args = c.args in
    stops_phased args.m args.n args.handler args.opened (ap kind_is c.in-Some.is) c.if-n-handler.false (sym c.is_beyond.ensures ∙ c.if-is_beyond.false)
    (sym is_one ∙ c.is_begin.ensures) stood

pub returns-in_default : goal.returns-in_default
returns-in_default c = stops_15 _ _ _ _ (ap kind_is c.in_default.is)

pub returns-then-n-handler : goal.returns-then-n-handler
returns-then-n-handler c = stops_11 _ _ _ _ (ap kind_is c.in-Some.is) c.if-n-handler.true

pub returns-then-is_beyond : goal.returns-then-is_beyond
returns-then-is_beyond c =
    stops_12 _ _ _ _ (ap kind_is c.in-Some.is) c.if-n-handler.false (sym c.is_beyond.ensures ∙ c.if-is_beyond.true)

pub returns-then-opened : goal.returns-then-opened
returns-then-opened c = by_phase (goal.at.returns-then-opened c).After-is_begin c.if-is_begin.true c.if-opened.true

pub returns-else-opened : goal.returns-else-opened
returns-else-opened c = by_phase (goal.at.returns-else-opened c).After-is_begin c.if-is_begin.true c.if-opened.false

pub returns-then-opened-2 : goal.returns-then-opened-2
returns-then-opened-2 c = by_phase (goal.at.returns-then-opened-2 c).After-is_begin c.if-is_begin.false c.if-opened-2.true

pub returns-else-opened-2 : goal.returns-else-opened-2
returns-else-opened-2 c = by_phase (goal.at.returns-else-opened-2 c).After-is_begin c.if-is_begin.false c.if-opened-2.false
