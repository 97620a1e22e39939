-- `prints::judge` meets its promise: on the words of a ledger, the judge's run is what it prints.
use Rattle.std.proofs.Common.{rules, arith}
use Rattle.prints.specs.Printed.{judged_printed}
use Rattle.prints.proofs.Whole.{judge_prints, printing_kept}
use Rattle.prints.proofs.judge.Goals as goal

pub returns-clause-judged_run_promise : goal.returns-clause-judged_run_promise
returns-clause-judged_run_promise c =
    let new = c.new-page.ensures in
    printing_kept judged_printed _ (judge_prints _ _ (omega arith)) new.front new.lent c.put_file.ensures.puts (search rules)
