-- `answers::overtaken_cell` meets its contract: the first cell that is found is the lowest.
use Rattle.std.proofs.Common.{◌≡◌, rules, tests}
use Rattle.rules.specs.demand.Judge.{stale}
use Rattle.ledger.specs.Entries.{entry_in}
use Rattle.ledger.specs.Histories.{deeds_of, commits_in}
use Rattle.answers.proofs.Ranges.{first_told}
use Rattle.answers.proofs.overtaken_cell.Goals as goal

pub returns : goal.returns
returns c = let args = c.args in
    let told = first_told (stale (commits_in args.m args.history.words.now args.history.count) (deeds_of (entry_in args.row.words.now args.row.index) args.m))
    _ _ _ args.m (λ x q call inside. search (rules, tests))
    (λ x q call. search (rules, tests)) c.find.ensures.ran in
    let same : c.map.result ≡ c.find.result = search rules in rw same told
