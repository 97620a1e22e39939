-- `prints::run` meets its promise: on words that are enough for every register, the register's run is what is printed.
use Rattle.std.proofs.Common.{rules, arith}
use Rattle.prints.specs.Printed.{printed}
use Rattle.prints.proofs.Whole.{register_prints, printing_kept}
use Rattle.prints.proofs.run.Goals as goal

pub returns-clause-run_promise : goal.returns-clause-run_promise
returns-clause-run_promise c =
    let new = c.new-page.ensures in
    printing_kept printed _ (register_prints _ _ (omega arith)) new.front new.lent c.put_file.ensures.puts (search rules)
