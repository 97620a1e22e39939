-- `answers::has_later` meets its contract: some commit is later just where the rules find one.
use Rattle.std.proofs.Common.{sym, ◌∙◌, rules, tests}
use Rattle.ledger.proofs.Versions.{is_later, later_at}
use Rattle.past.specs.Marks.{marked}
use Rattle.answers.proofs.Ranges.{any_told}
use Rattle.answers.proofs.has_later.Goals as goal

pub returns : goal.returns
returns c m inside = let args = c.args in
    any_told (is_later args.history.words.now args.y (marked args.marks.0) args.source) _ _ _ _ (λ x q call. search (rules, tests))
    (λ x q call. search (rules, tests)) c.any.ensures.ran ∙ sym (later_at m _ _ inside _ _ _)
