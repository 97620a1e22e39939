-- `schedule::scripts::whole` meets its contract: the script is whole just when what is left of it is.
use Rattle.std.proofs.Common.{◌≡◌, length}
use Rattle.schedule.specs.Scripts.{is_whole}
use Rattle.schedule.proofs.scripts.whole.Given as goal

abbrev pub invariant-loop-standing : goal.invariant-loop-standing
invariant-loop-standing l = is_whole l.script ≡ is_whole l.left

abbrev pub decreases-loop-standing : goal.decreases-loop-standing
decreases-loop-standing l = length l.left
