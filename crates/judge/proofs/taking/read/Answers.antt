-- `judge::taking::read` meets its contract: what the copy shows, or abort 1, or what the present version shows, which is noted.
use Rattle.std.proofs.Common.{◌≡◌, ap, ◌∙◌}
use Rattle.words.specs.Sets.{found_is}
use Rattle.judge.proofs.Answers.{touched, torn_by, touched_told, torn_told, takes_again, takes_torn, takes_first, word_noted}
use Rattle.judge.proofs.taking.read.Goals as goal
use Rattle.judge.proofs.taking.read.Goals.{After-has_copy, After-torn_cell}

-- What was asked of the cell.
asked : (c : After-has_copy) → let args = c.args in touched args.words.now args.i args.x ≡ c.has_copy.result
asked c = let args = c.args in
    touched_told args.words.now args.i args.x c.handler_row-index.ensures (c.has_copy.ensures _ c.requires.cell)

-- What was asked of the commits.
torn : (c : After-torn_cell) → let args = c.args in torn_by args.words.now args.i args.x ≡ found_is c.torn_cell.result
torn c = let pre = c.requires in
    torn_told pre _ c.handler_row-index.ensures (c.writer_of-place.ensures.writer _ pre.cell) c.torn_cell.ensures

pub returns-then-has_copy : goal.returns-then-has_copy
returns-then-has_copy c v =
    takes_again c.requires c.handler_row-index.ensures (c.copy_content.ensures _ c.requires.cell)
    (asked (goal.at.returns-then-has_copy c).After-has_copy ∙ c.if-has_copy.true) v

pub returns-in-Some : goal.returns-in-Some
returns-in-Some c v =
    takes_torn c.requires (asked (goal.at.returns-in-Some c).After-has_copy ∙ c.if-has_copy.false) _
    (torn (goal.at.returns-in-Some c).After-torn_cell ∙ ap found_is c.in-Some.is) v
    c.handler_row-index.ensures c.empty_row.ensures

pub returns : goal.returns
returns c v =
    takes_first c.requires (asked (goal.at.returns c).After-has_copy ∙ c.if-has_copy.false)
    (torn (goal.at.returns c).After-torn_cell ∙ ap found_is c.in_default.is) v _ _ _
    (c.writer_of-place.ensures.writer _ c.requires.cell) (c.present_content-content.ensures _ c.requires.cell)
    (c.unwrap_or.ensures ∙ word_noted c.present_content-content.result) c.handler_row-index.ensures c.note_read.ensures
