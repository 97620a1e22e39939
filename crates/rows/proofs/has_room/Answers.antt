-- `rows::has_room` meets its contract: no room behind the end, and else as much as is left.
use Prim.Native.Nat.{◌+◌, ◌*◌}
use mathlib.Core.Path.{sym, ap}
use mathlib.Core.Bool.{not}
use native.Mathlib.Omega.{arith}
use borrow.Author.Tests.{lt-ltb}
use Rattle.limits.specs.Limits.{report_width}
use Rattle.rows.proofs.Taking.{room_left}
use Rattle.rows.proofs.has_room.Goals as goal

pub returns-then-length-place : goal.returns-then-length-place
returns-then-length-place c = let args = c.args in
    sym (ap not (lt-ltb args.length (args.place + report_width * args.count) (omega arith)))

pub returns : goal.returns
returns c = let args = c.args in room_left args.length args.place args.count _ (omega arith) (omega arith)
