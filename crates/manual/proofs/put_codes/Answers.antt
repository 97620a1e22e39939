-- `manual::put_codes` meets its promise: behind the heading, code by code, each row is put.
use Rattle.std.proofs.Common.{◌≡◌, ◌∙◌, rules, arith}
use Rattle.text.proofs.Pages.{writes_both, turn_none, turn_more, page_whole}
use Rattle.manual.proofs.put_codes.Goals as goal

pub loop-code-init : goal.loop-code-init
loop-code-init c = (omega arith, omega arith, turn_none _)

pub loop-code-preserved : goal.loop-code-preserved
loop-code-preserved c = let loop = c.loop-code in
    let row = c.put_row.ensures in
    (omega arith, omega (arith, loop.invariant.1, row.upper_bound), turn_more _ loop.code loop.invariant.2 row.puts)

pub returns-clause-codes_promise : goal.returns-clause-codes_promise
returns-clause-codes_promise c =
    let loop = c.loop-code in
    let all : loop.code ≡ 256 = omega arith in
    let lines = writes_both c.put_head.ensures.puts (rw all at loop.invariant.2) in
    let whole = page_whole c.new-page.ensures.front c.new-page.ensures.lent lines in record { replied = whole.0; left = search rules ∙ whole.1 }
