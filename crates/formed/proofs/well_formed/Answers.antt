-- `formed::well_formed` meets its contract: it answers no where the words are too short for m and n or these are out of range, and
-- else whether the words behind them are a good body.
use Rattle.std.proofs.Common.{sym, ap, ◌∙◌, arith}
use Rattle.rules.proofs.steps.Given.{range_tested}
use Rattle.layout.specs.WellFormed.{is_good_body}
use Rattle.layout.proofs.Fronts.{behind_is}
use Rattle.layout.proofs.Tested.{short_not}
use Rattle.formed.proofs.Answers.{out_of_range_formed, in_range_formed}
use Rattle.formed.proofs.well_formed.Goals as goal

pub returns-then-words-lt-FRONT : goal.returns-then-words-lt-FRONT
returns-then-words-lt-FRONT c = sym (short_not _ c.if-words-lt-FRONT.true)

pub returns-then-not-in_range : goal.returns-then-not-in_range
returns-then-not-in_range c = out_of_range_formed _ (sym c.in_range.ensures.replied ∙ c.if-not-in_range.true)

pub good_body-requires : goal.good_body-requires
good_body-requires c = omega (arith, (range_tested _ _).0 (sym c.in_range.ensures.replied ∙ c.if-not-in_range.false))

pub returns : goal.returns
returns c = c.good_body.ensures ∙ ap (is_good_body 1 _ _) (behind_is 2 c.args.words.now)
    ∙ in_range_formed _ (sym c.in_range.ensures.replied ∙ c.if-not-in_range.false)
