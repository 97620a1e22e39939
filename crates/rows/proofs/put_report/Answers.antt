-- `rows::put_report` meets its contract: five words, one behind the other.
use native.Mathlib.Omega.{arith}
use lib.ListN.{length-set}
use Rattle.replies.specs.Meaning.{reply_is}
use Rattle.rows.proofs.Taking.{report_stored}
use Rattle.rows.proofs.put_report.Goals as goal

pub bounds-reports-at-2 : goal.bounds-reports-at-2
bounds-reports-at-2 c = simp length-set (omega arith)

pub bounds-reports-at-3 : goal.bounds-reports-at-3
bounds-reports-at-3 c = simp length-set (omega arith)

pub bounds-reports-at-4 : goal.bounds-reports-at-4
bounds-reports-at-4 c = simp length-set (omega arith)

pub bounds-reports-at-5 : goal.bounds-reports-at-5
bounds-reports-at-5 c = simp length-set (omega arith)

pub returns : goal.returns
returns c = let args = c.args in
    report_stored _ _ (record { handler = args.handler; code = args.code; value = 0 }) (reply_is args.answer) (omega arith) (omega arith)
    c.numbers_of-numbers.ensures.replied c.requires
