-- Steps that take no value take any.
use Prim.Native.Nat.{ℕ}
use mathlib.Core.List.{List}
use Rattle.rules.specs.steps.Codes.{begin, try, give_up, read}
use Rattle.rules.specs.steps.Replies.{Outcome}
use Rattle.rules.specs.steps.Figure.{step}
use Rattle.steps.specs.Takes.{Takes}

module _ {m n i value : ℕ} {words : List ℕ} {outcome : Outcome ℕ} {after : List ℕ} where
  -- A begin takes no value.
  pub begin_any : Takes m n words i begin 0 outcome after → Takes m n words i begin value outcome after
  unfolding step
  begin_any takes = record { replied = takes.replied; left = takes.left }

  -- A try takes no value.
  pub try_any : Takes m n words i try 0 outcome after → Takes m n words i try value outcome after
  unfolding step
  try_any takes = record { replied = takes.replied; left = takes.left }

  -- A give up takes no value.
  pub give_up_any : Takes m n words i give_up 0 outcome after → Takes m n words i give_up value outcome after
  unfolding step
  give_up_any takes = record { replied = takes.replied; left = takes.left }

  -- A read takes no value.
  pub read_any : {x : ℕ} → Takes m n words i (read x) 0 outcome after → Takes m n words i (read x) value outcome after
  unfolding step
  read_any takes = record { replied = takes.replied; left = takes.left }
