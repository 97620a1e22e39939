-- `answers::torn_cell` meets its contract: with the version's past marked, the first cell that is found is the lowest that it tears.
use Rattle.std.proofs.Common.{◌≡◌, ap, ◌∙◌, arith, rules, tests}
use Rattle.rules.specs.steps.Tables.{lowest}
use Rattle.rules.specs.history.Past.{outdated, tears_at}
use Rattle.ledger.specs.Entries.{entry_in}
use Rattle.ledger.specs.Histories.{deeds_of, commits_in}
use Rattle.past.specs.Marks.{marked}
use Rattle.past.proofs.Marking.{closed_none}
use Rattle.past.proofs.Asked.{version_marks}
use Rattle.answers.proofs.Ranges.{first_told}
use Rattle.answers.proofs.torn_cell.Goals as goal

pub past_of_version-marks-requires-clause-closed : goal.past_of_version-marks-requires-clause-closed
past_of_version-marks-requires-clause-closed c = closed_none _ _

pub returns : goal.returns
unfolding tears_at
returns c =
    let args = c.args in
    let commits = commits_in args.m args.history.words.now args.history.count in
    let deeds = deeds_of (entry_in args.row.words.now args.row.index) args.m in
    let marks = c.past_of_version-marks in
    let told = first_told (outdated commits (marked marks.result.0) deeds) _ _ _ args.m (λ x q call inside. search (rules, tests))
    (λ x q call. search (rules, tests)) c.find.ensures.ran in
    let same : c.map.result ≡ c.find.result = search rules in
    rw same told ∙ ap (λ past. lowest args.m (outdated commits past deeds)) (version_marks _ _ _ (omega arith) marks.ensures)
