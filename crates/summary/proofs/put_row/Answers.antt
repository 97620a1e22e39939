-- `summary::put_row` meets its contract: the handler's number, each of its counts, and the end of the line.
use Rattle.text.proofs.Pages.{writes_both}
use Rattle.summary.specs.Texts.{row_text}
use Rattle.summary.proofs.put_row.Goals as goal

pub returns-clause-puts : goal.returns-clause-puts
unfolding row_text
returns-clause-puts c =
    let begun = writes_both c.put_named.ensures.puts c.put_count.ensures.puts in
    let torn = writes_both (writes_both begun c.put_count-2.ensures.puts) c.put_count-3.ensures.puts in
    let spent = writes_both (writes_both torn c.put_count-4.ensures.puts) c.put_count-5.ensures.puts in
    writes_both (writes_both spent c.put_count-6.ensures.puts) c.put_text.ensures
