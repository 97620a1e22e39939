-- A handler beyond the last is idle.
use Prim.Native.Nat.{ℕ, ◌≤◌}
use mathlib.Core.Path.{◌≡◌}
use mathlib.Core.Bool.{false}
use mathlib.Core.List.{List}
use borrow.Author.Tests.{le-ltb}
use Rattle.rules.specs.steps.Register.{has_open, idle}
use Rattle.layout.specs.Rows.{below}
use Rattle.layout.specs.View.{view}

-- No handler at n or above is open.
pub beyond_idle : (m n : ℕ) (body : List ℕ) (handler : ℕ) → n ≤ handler → false ≡ has_open ((view m n body).handlers handler)
unfolding view below idle
beyond_idle m n body handler beyond = rw (le-ltb handler n beyond)
