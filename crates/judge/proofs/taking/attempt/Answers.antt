-- `judge::taking::attempt` meets its contract: a stale read ends the transaction, and without one it commits.
use Rattle.std.proofs.Common.{◌≡◌, ap, ◌∙◌}
use Rattle.words.specs.Sets.{found_is}
use Rattle.judge.proofs.Answers.{stale_cell, stale_told, takes_overtaken, takes_commit, commit_room}
use Rattle.judge.proofs.taking.attempt.Goals as goal
use Rattle.judge.proofs.taking.attempt.Goals.{After-overtaken_cell}

-- What was asked of the row.
asked : (c : After-overtaken_cell) → let args = c.args in stale_cell args.words.now args.i ≡ found_is c.overtaken_cell.result
asked c = stale_told c.requires.ready c.handler_row-index.ensures c.overtaken_cell.ensures

pub returns-in-Some : goal.returns-in-Some
returns-in-Some c v = takes_overtaken c.requires.ready _ (asked (goal.at.returns-in-Some c).After-overtaken_cell ∙ ap found_is c.in-Some.is) v
    c.handler_row-index.ensures c.empty_row.ensures

pub note_commit-requires : goal.note_commit-requires
note_commit-requires c = let pre = c.requires in (
  pre.ready.ledger,
  pre.ready.handler,
  commit_room pre.ready pre.room (asked (goal.at.note_commit-requires c).After-overtaken_cell ∙ ap found_is c.in_default.is),
)

pub returns : goal.returns
returns c v = takes_commit c.requires.ready (asked (goal.at.returns c).After-overtaken_cell ∙ ap found_is c.in_default.is) v c.note_commit.ensures
