-- For internal contracts alone: what our own functions are called with and leave. Nothing here need be believed.
-- What the functions over rows of words do: some words become those of a table, or a row is one of a table.
use Rattle.std.specs.Prelude.{ℕ, ◌+◌, ◌≤◌, ◌<◌, ◌≡◌, List, length, get_or}
use Rattle.layout.specs.Rows.{Untouched}

-- So many words from a place on are those of the table, and all others as they were.
pub record Changed (from count : ℕ) (table : ℕ → ℕ) (words after : List ℕ) : Type 0 where
  pub untouched : Untouched from count words after
  pub inside : (y : ℕ) → y < count → get_or after (from + y) 0 ≡ table y

-- The first so many of 32 words are those of the table, and the others are 0.
pub record RowOf (count : ℕ) (table : ℕ → ℕ) (row : List ℕ) : Type 0 where
  pub size : length row ≡ 32
  pub inside : (y : ℕ) → y < count → get_or row y 0 ≡ table y
  pub beyond : (y : ℕ) → count ≤ y → get_or row y 0 ≡ 0
