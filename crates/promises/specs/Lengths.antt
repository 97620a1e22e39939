-- What the question for a register's length promises, for all m and n.
use Rattle.std.specs.Prelude.{ℕ, if◌then◌else◌}
use Rattle.std.proofs.Math.Option.{Option, none, some}
use Rattle.rules.specs.Promise.{Due, Promise, answering}
use Rattle.rules.specs.steps.Checks.{in_range}
use Rattle.layout.specs.Places.{size}

-- The length of a register of m cells and n handlers, if m and n are in range.
unfoldable pub length_for : ℕ → ℕ → Option ℕ
length_for m n = if in_range m n then (some (size m n)) else none

-- What the question is given.
pub record LengthCall : Type 0 where
  pub cells : ℕ
  pub handlers : ℕ

-- What it comes to.
abbrev pub asks_length : LengthCall → Due (Option ℕ) Unit
asks_length = answering (λ call. length_for call.cells call.handlers)

-- The promise of the length.
abbrev pub LengthPromise : ℕ → ℕ → Option ℕ → Type 0
LengthPromise m n reply = Promise asks_length (record { cells = m; handlers = n }) reply tt
