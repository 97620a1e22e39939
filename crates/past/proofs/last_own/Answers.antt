-- `past::last_own` meets its contract: the search ends at the handler's last commit.
use Rattle.std.proofs.Common.{eqb, eqb-true, refl, rules, tests}
use borrow.Author.Tests.{eqb-false}
use Rattle.rules.specs.history.Past.{last_of}
use Rattle.ledger.specs.Entries.{commit_row, entry_in}
use Rattle.ledger.specs.Histories.{commits_in}
use Rattle.ledger.proofs.Commits.{last_none, last_own, last_other}
use Rattle.past.proofs.Last.{last_found}
use Rattle.past.proofs.last_own.Goals as goal

pub returns : goal.returns
returns c m =
    let words = c.args.history.words.now in
    let i = c.args.handler in
    rw c.unwrap_or.ensures (last_found (λ place. eqb (entry_in words (commit_row place)).head i) (λ count. last_of (commits_in m words count) i)
    (last_none m words i) (λ k own. last_own m words k i (eqb-true _ i own)) (λ k other. last_other m words k i (eqb-false _ i other))
    _ (λ place b q call. search (rules, tests)) (λ place b q call. search rules) _ _ _ _ refl refl c.rfind.ensures.ran)
