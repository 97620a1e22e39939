-- For internal contracts alone: what our own functions are called with and leave. Nothing here need be believed.
-- What a commit does to the words of a body: the numbers of the written cells are raised in the transaction's row, and then each
-- written cell takes its copy and that row.
use Rattle.std.specs.Prelude.{ℕ, ◌+◌, ◌*◌, ◌≤◌, ◌<◌, ◌≡◌, Bool, List, length, get_or, if◌then◌else◌}
use Rattle.rules.specs.steps.Register.{Register}
use Rattle.layout.specs.Bits.{has_bit}
use Rattle.layout.specs.Places.{cell_long, own_at}
use Rattle.layout.specs.View.{Holds}
use Rattle.layout.specs.WellFormed.{NoBitFrom}

-- A body whose m cells are there, a set of some of them, and a row of m words behind the cells.
pub record Behind (m set row : ℕ) (body : List ℕ) : Type 0 where
  pub few : m ≤ 32
  pub below : NoBitFrom m set
  pub cells : m * cell_long m ≤ row
  pub fits : row + m ≤ length body

-- Each cell's own number can be raised in a word.
abbrev pub Raisable : ℕ → List ℕ → Type 0
Raisable m body = (c : ℕ) → c < m → get_or body (own_at m c) 0 ≤ 65535

-- The row held, with the number of each cell of the set one above its own.
abbrev pub stamped_in : ℕ → ℕ → List ℕ → ℕ → ℕ → ℕ
stamped_in m set body held y = if has_bit set y then (get_or body (own_at m y) 0 + 1) else (get_or body (held + y) 0)

-- The register in which the cells that are done have taken a value and the numbers.
unfoldable pub stored_where : (ℕ → Bool) → (ℕ → ℕ) → (ℕ → ℕ) → Register ℕ → Register ℕ
stored_where done copies numbers r = record {
  cells = λ c. if done c then (record { value = copies c; numbers = numbers }) else (r.cells c);
  handlers = r.handlers;
}

-- Whatever register the words hold, they hold it with the cells that are done stored.
pub record Stores (m : ℕ) (done : ℕ → Bool) (copies numbers : ℕ → ℕ) (words after : List ℕ) : Type 0 where
  pub size : length after ≡ length words
  pub holds : (n : ℕ) (r : Register ℕ) (rest : List ℕ) → Holds m n r rest words → Holds m n (stored_where done copies numbers r) rest after
