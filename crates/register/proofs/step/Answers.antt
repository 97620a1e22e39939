-- `register::step` meets its promise: 10 for words that are no register, and else what the step of those that are one promises.
use mathlib.Core.Path.{sym, ◌∙◌}
use Rattle.layout.proofs.Tested.{tested}
use Rattle.checks.proofs.Tables.{entry_tells}
use Rattle.register.proofs.Stepping.{malformed_stops}
use Rattle.register.proofs.step.Goals as goal

pub returns-then-not-well_formed : goal.returns-then-not-well_formed
returns-then-not-well_formed c = malformed_stops _ _ _ _ (sym c.well_formed-2.ensures ∙ c.if-not-well_formed.true)

pub step_formed-turned-requires : goal.step_formed-turned-requires
step_formed-turned-requires c = (tested _).0 (sym c.well_formed-2.ensures ∙ c.if-not-well_formed.false)

pub returns : goal.returns
returns c = rw c.answer_of.ensures (c.step_formed-turned.ensures _ (entry_tells _ c.entry_of-entry.ensures)).0
