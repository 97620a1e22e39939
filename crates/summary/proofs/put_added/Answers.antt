-- `summary::put_added` meets its promise: the name, what is said of it, and the end of the line.
use Rattle.std.proofs.Common.{◌∙◌, rules}
use Rattle.text.proofs.Pages.{writes_both, page_whole}
use Rattle.summary.proofs.put_added.Goals as goal

pub returns-clause-added_text_promise : goal.returns-clause-added_text_promise
returns-clause-added_text_promise c =
    let line = writes_both (writes_both c.put_text.ensures c.put_verdict.ensures.puts) c.put_text-2.ensures in
    let whole = page_whole c.new-page.ensures.front c.new-page.ensures.lent line in record { replied = whole.0; left = search rules ∙ whole.1 }
