-- `turns::turn` meets its promise: what the checks refuse is refused, and what they let through is taken and reported.
use Rattle.std.proofs.Common.{rules, ◌≡◌, sym, ap, ◌∙◌, true, Err}
use Rattle.rules.specs.steps.Checks.{asking, first_hit, step_checks}
use Rattle.rules.specs.steps.Register.{has_open}
use Rattle.layout.specs.View.{view}
use Rattle.checks.specs.Meaning.{kind_is, verdict_is}
use Rattle.checks.specs.Promises.{verdict}
use Rattle.checks.proofs.Refusing.{verdict_passes, verdict_refuses}
use Rattle.turns.proofs.Turning.{body_stops, body_ready, body_takes}
use Rattle.turns.proofs.turn.Goals as goal
use Rattle.turns.proofs.turn.Goals.{After-verdict_of}

-- The verdict is what the checks say of the kind.
said : (c : After-verdict_of) → let args = c.args in
    verdict_is c.verdict_of.result
    ≡ verdict (first_hit (step_checks (asking true args.m args.n args.handler (kind_is args.kind)
    (has_open ((view args.m args.n args.body.now).handlers args.handler))))) (kind_is args.kind)
said c = let args = c.args in
    c.verdict_of.ensures.replied
    ∙ ap (λ opened. verdict (first_hit (step_checks (asking true args.m args.n args.handler (kind_is args.kind) opened))) (kind_is args.kind))
    c.has_open-opened.ensures

pub returns-in_err-step : goal.returns-in_err-step
returns-in_err-step c sheet code is =
    let refused : c.from_residual.result ≡ Err c.in_err-step.field-0.0 = search rules in
    rw refused (body_stops c.requires c.args.handler c.args.value _ code sheet is _
    (verdict_refuses _ _ _ _ _ (sym (ap verdict_is c.in_err-step.was) ∙ said (goal.at.returns-in_err-step c).After-verdict_of)))

pub take-requires : goal.take-requires
take-requires c = let passed = verdict_passes _ _ _ _ _ (sym (ap verdict_is c.in_ok-step.was) ∙ said (goal.at.take-requires c).After-verdict_of) in
    body_ready c.requires c.args.handler c.args.value (kind_is c.args.kind) passed.1 passed.0

pub returns : goal.returns
returns c sheet code is = let passed = verdict_passes _ _ _ _ _ (sym (ap verdict_is c.in_ok-step.was) ∙ said (goal.at.returns c).After-verdict_of) in
    body_takes c.requires c.args.handler c.args.value _ code sheet is passed.1 passed.0 c.take.ensures
