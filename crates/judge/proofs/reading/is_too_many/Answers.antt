-- `judge::reading::is_too_many` meets its contract: where 64 commits are noted, a try with no stale read is one too many.
use Rattle.std.proofs.Common.{◌≡◌, true≢false, not, sym, ◌∙◌, arith, rules}
use Rattle.std.specs.Option.{is_some}
use Rattle.checks.specs.declared.Step.TheVariants.{Try}
use Rattle.judge.proofs.Tests.{try_too_many}
use Rattle.judge.proofs.reading.is_too_many.Goals as goal
use Rattle.judge.proofs.reading.is_too_many.Goals.{in-Try, in_default}

pub returns-then-matches : goal.returns-then-matches
returns-then-matches c = elim c.match-matches.branch [
  | in-Try w ↦
      let tried : c.args.step ≡ Try = search rules in
      let none : c.is_none.result ≡ not (is_some c.overtaken_cell.result) = search rules in
      none ∙ sym (try_too_many _ _ _ _ _ c.requires tried (omega arith) c.handler_row.ensures c.overtaken_cell.ensures)
  | in_default w ↦ absurd (true≢false (sym c.if-matches.true ∙ w.matches-is))
]
