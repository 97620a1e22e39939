-- `summary::put_sheet` meets its promise: handler by handler, each line is put.
use Rattle.std.proofs.Common.{◌≡◌, ◌∙◌, rules, arith}
use Rattle.text.proofs.Pages.{turn_none, turn_more, page_whole}
use Rattle.summary.proofs.put_sheet.Goals as goal

pub loop-handler-init : goal.loop-handler-init
loop-handler-init c = (omega arith, omega arith, turn_none _)

pub loop-handler-preserved : goal.loop-handler-preserved
loop-handler-preserved c = let loop = c.loop-handler in
    let line = c.put_row.ensures in
    (omega arith, omega (arith, loop.invariant.1, line.upper_bound), turn_more _ loop.handler loop.invariant.2 line.puts)

pub returns-clause-sheet_text_promise : goal.returns-clause-sheet_text_promise
returns-clause-sheet_text_promise c =
    let loop = c.loop-handler in
    let all : loop.handler ≡ 16 = omega arith in
    let whole = page_whole c.new-page.ensures.front c.new-page.ensures.lent (rw all at loop.invariant.2) in
    record { replied = whole.0; left = search rules ∙ whole.1 }
