-- `judge::step` meets its promise: 10, or what the checks refuse, or what passes.
use Rattle.std.proofs.Common.{◌≡◌, Err, sym, ap, ◌∙◌, rules}
use Rattle.rules.specs.steps.Codes.{plain_sheet}
use Rattle.checks.specs.Meaning.{verdict_is}
use Rattle.checks.specs.Promises.{verdict}
use Rattle.checks.proofs.Refusing.{verdict_passes, verdict_refuses}
use Rattle.judge.proofs.Stepping.{step_malformed, says, asked_plainly, step_stops, step_ready, step_passes}
use Rattle.judge.proofs.step.Goals as goal
use Rattle.judge.proofs.step.Goals.{After-verdict_of}

-- The verdict is what the checks say by the history.
said : (c : After-verdict_of) → let args = c.args in
    verdict_is c.verdict_of.result ≡ verdict (says args.words.now args.handler args.code) (plain_sheet args.code)
said c = let args = c.args in
    asked_plainly args.words.now args.handler args.code c.kind_of-kind.ensures.replied c.is_open-opened.ensures c.verdict_of.ensures.replied

pub returns-then-not-is_ledger : goal.returns-then-not-is_ledger
returns-then-not-is_ledger c = step_malformed _ _ _ _ (sym c.is_ledger.ensures.tested ∙ c.if-not-is_ledger.true)

pub returns-in_err-step : goal.returns-in_err-step
returns-in_err-step c =
    let refused : c.from_residual.result ≡ Err c.in_err-step.field-0.0 = search rules in
    rw refused (step_stops _ _ _ _ c.if-not-is_ledger.ensures.kept _
    (verdict_refuses _ _ _ _ _ (sym (ap verdict_is c.in_err-step.was) ∙ said (goal.at.returns-in_err-step c).After-verdict_of)))

pub pass-requires : goal.pass-requires
pass-requires c =
    let passed = verdict_passes _ _ _ _ _ (sym (ap verdict_is c.in_ok-step.was) ∙ said (goal.at.pass-requires c).After-verdict_of) in
    step_ready _ _ _ c.args.value c.if-not-is_ledger.ensures.kept passed.1 passed.0

pub returns : goal.returns
returns c =
    let passed = verdict_passes _ _ _ _ _ (sym (ap verdict_is c.in_ok-step.was) ∙ said (goal.at.returns c).After-verdict_of) in
    step_passes _ _ _ _ c.if-not-is_ledger.ensures.kept passed.1 passed.0 c.pass.ensures
