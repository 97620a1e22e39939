-- `schedule::sound::Sound::of` meets its contract: out of range, or as its table is.
use Rattle.std.proofs.Common.{sym, ◌∙◌, arith}
use Rattle.rules.proofs.steps.Given.{range_tested}
use Rattle.rules.proofs.steps.Tables.{both_ways}
use Rattle.schedule.proofs.sound.Sound.of.Goals as goal

pub returns-then-not-in_range : goal.returns-then-not-in_range
returns-then-not-in_range c = λ sound. both_ways ((range_tested _ _).1 sound.range) (sym c.in_range.ensures.replied ∙ c.if-not-in_range.true)

pub invariant_of-result-clause-sound : goal.invariant_of-result-clause-sound
invariant_of-result-clause-sound c =
    let (same, begins, many) = c.in_ok-table.ensures in
    let ranged = (range_tested _ _).0 (sym c.in_range.ensures.replied ∙ c.if-not-in_range.false) in
    rw same (record { short = omega arith; range = ranged; table = rw (same, begins, many) at c.in_ok-table.table.sound })
