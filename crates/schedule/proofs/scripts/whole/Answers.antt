-- `schedule::scripts::whole` meets its contract: the script is whole just when what is left of it is.
use Rattle.std.proofs.Common.{sym, ap, ◌∙◌, arith, length-drop, take_all}
use Rattle.schedule.specs.Scripts.{is_whole}
use Rattle.schedule.proofs.Wholes.{whole_on, whole_ends}
use Rattle.schedule.proofs.scripts.whole.Goals as goal

pub loop-standing-preserved : goal.loop-standing-preserved
loop-standing-preserved c =
    let lent_whole = take_all _ _ (omega (arith, length-drop c.in-Ok.standing.long c.loop-standing.left.now)) in
    c.loop-standing.invariant ∙ whole_on c.in-Ok.ensures ∙ sym (ap is_whole lent_whole)

pub returns : goal.returns
returns c = c.is_empty.ensures ∙ whole_ends _ c.in_default.ensures ∙ sym c.loop-standing.invariant
