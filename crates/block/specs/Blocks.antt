-- For internal contracts alone: what our own functions are called with and leave. Nothing here need be believed.
-- What the functions over a handler's block require, and a handler that a cell has joined. A row of 32 words stands for a table of numbers.
use Rattle.std.specs.Prelude.{ℕ, ◌≤◌, max, ◌≡◌, true, List, length, get_or}
use Rattle.rules.specs.steps.Tables.{put}
use Rattle.rules.specs.steps.Register.{Handler}
use Rattle.layout.specs.Places.{handler_long, phase_in}
use Rattle.layout.specs.WellFormed.{GoodBlock}

-- The words of a block of m cells.
pub record Block (m : ℕ) (block : List ℕ) : Type 0 where
  pub size : length block ≡ handler_long m
  pub cells : m ≤ 32

-- A good block of an open handler.
pub record OpenBlock (m : ℕ) (block : List ℕ) : Type 0 where
  pub words : Block m block
  pub good : GoodBlock m block
  pub opened : phase_in block ≡ 1

-- The table that a row stands for.
abbrev pub row_table : List ℕ → ℕ → ℕ
row_table row y = get_or row y 0

-- The handler with its numbers raised to a table's, with cell x in its read set at the table's number, and with a copy of it.
unfoldable pub joined_with : Handler ℕ → ℕ → ℕ → (ℕ → ℕ) → Handler ℕ
joined_with h x value numbers = record {
  phase = 1;
  read_set = put h.read_set x true;
  written_set = h.written_set;
  numbers = h.numbers;
  transaction = put (λ y. max (h.transaction y) (numbers y)) x (numbers x);
  copies = put h.copies x value;
}
