-- `schedule::next_step` meets its promise: what the order place holds decides, and the handler that it names.
use Rattle.schedule.proofs.Nexts.{next_unsound, next_over, next_named}
use Rattle.schedule.proofs.next_step.Goals as goal

pub returns-in-Err : goal.returns-in-Err
returns-in-Err c = next_unsound _ _ _ c.in-Err.ensures

pub returns-in_default : goal.returns-in_default
returns-in_default c = rw (← c.in-Ok.ensures) (next_over _ _ _ c.in_default.ensures.0 c.in_default.ensures.1)

pub returns : goal.returns
returns c =
    let (sound, inside, is) = c.in-Some.ensures in
    rw (← c.in-Ok.ensures) (next_named _ _ _ sound inside is c.named_step.ensures)
