-- `sheets::count_answer` meets its contract: the row of the handler is read, brought up to date and put back, where it has one.
use native.Mathlib.Omega.{arith}
use Rattle.sheets.proofs.Answers.{answer_beyond, row_room, answer_counted}
use Rattle.sheets.proofs.count_answer.Goals as goal

pub returns-then-i-ge-HANDLER_TABLE : goal.returns-then-i-ge-HANDLER_TABLE
returns-then-i-ge-HANDLER_TABLE c = answer_beyond c.requires.long (omega arith)

pub kept_up-requires : goal.kept_up-requires
kept_up-requires c = let row = c.sheet_row-at.ensures in
    row_room c.requires (omega arith) row c.counts_at-counts.ensures

pub returns : goal.returns
returns c = let read = c.counts_at-counts.ensures in
    answer_counted c.requires (omega arith) c.sheet_row-at.ensures read c.kept_up.ensures
    c.put_counts.ensures
