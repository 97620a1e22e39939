-- `words::with_cell` meets its contract: a cell that is not in the set joins it by a sum that fits a word.
use mathlib.Core.Path.{sym, ◌∙◌}
use Rattle.layout.proofs.Bits.{with_there, with_shifted, shifted_fits}
use Rattle.words.proofs.with_cell.Goals as goal

pub overflow_add-result : goal.overflow_add-result
overflow_add-result c = let absent = sym c.before.has.ensures ∙ c.if-has.false in
    record { fits = shifted_fits 32 _ _ c.before.before.requires absent c.before.before.ranges.set.fits }

pub returns-then-has : goal.returns-then-has
returns-then-has c = sym (with_there _ _ (sym c.before.has.ensures ∙ c.if-has.true))

pub returns-else-has : goal.returns-else-has
returns-else-has c = with_shifted 32 _ _ c.before.before.requires (sym c.before.has.ensures ∙ c.if-has.false)
