-- `answers::writer_of` meets its contract: the search ends at the last commit that wrote the cell.
use Rattle.std.proofs.Common.{refl, rules, tests}
use Rattle.rules.specs.history.History.{writer}
use Rattle.ledger.specs.Entries.{commit_row, entry_in}
use Rattle.ledger.specs.Histories.{commits_in}
use Rattle.ledger.proofs.Versions.{writer_none, writer_wrote, writer_kept}
use Rattle.past.proofs.Last.{last_found}
use Rattle.answers.proofs.writer_of.Goals as goal

pub returns-clause-writer : goal.returns-clause-writer
returns-clause-writer c m inside =
    let words = c.args.history.words.now in
    let x = c.args.x in
    rw c.unwrap_or.ensures (last_found (λ place. (entry_in words (commit_row place)).written x) (λ count. writer (commits_in m words count) x)
    (writer_none m words x inside) (writer_wrote m words x inside) (writer_kept m words x inside)
    _ (λ place b q call. search (rules, tests)) (λ place b q call. search rules) _ _ _ _ refl refl c.rfind.ensures.ran)
