-- `prints::put_file` meets its contract: the run of a file that is admitted, or the one line of a file that is refused.
use Rattle.std.proofs.Common.{arith}
use Rattle.prints.proofs.Runs.{admitted_cells, refused_put}
use Rattle.prints.proofs.put_file.Goals as goal

pub put_run-requires : goal.put_run-requires
put_run-requires c = (omega arith, admitted_cells _ c.in-Ok.ensures.replied)

pub returns-in-Err-clause-puts : goal.returns-in-Err-clause-puts
returns-in-Err-clause-puts c = refused_put _ _ _ c.in-Err.ensures.replied c.put_refused.ensures.puts
