-- For internal contracts alone: what our own functions are called with and leave. Nothing here need be believed.
-- What is looked at of words: spans of two tables, the numbers of a table, and a block's front and numbers.
use Rattle.std.specs.Prelude.{ℕ, ◌≤◌, ◌<◌, ◌↔◌, List, get_or, Option, MatchOption}
use Rattle.limits.specs.Limits.{most_number}
use Rattle.layout.specs.Places.{handler_part, phase_in, read_set_in, written_set_in, handler_number_in, transaction_number_in}
use Rattle.layout.specs.WellFormed.{NoBitFrom}

-- The words of two tables are numbers of at most 65,535, from a place to another.
abbrev pub SpanFits : List ℕ → List ℕ → ℕ → ℕ → Type 0
SpanFits first second from to = (y : ℕ) → y < to → from ≤ y → (get_or first y 0 ≤ 65535) × (get_or second y 0 ≤ 65535)

-- The first m numbers of a table are at most 65,535.
abbrev pub Fit : ℕ → (ℕ → ℕ) → Type 0
Fit m numbers = (y : ℕ) → y < m → numbers y ≤ 65535

-- The numbers of a block's handler and of its transaction are at most 65,535.
abbrev pub NumbersFit : ℕ → List ℕ → Type 0
NumbersFit m block = Fit m (handler_number_in block) × Fit m (transaction_number_in m block)

-- In front of a block's numbers all is well.
abbrev pub GoodFront : ℕ → ℕ → List ℕ → Type 0
GoodFront last m block = (phase_in block ≤ last) × (NoBitFrom m (read_set_in block) × NoBitFrom m (written_set_in block))

-- So it is in each of n blocks.
abbrev pub GoodFronts : ℕ → ℕ → ℕ → List ℕ → Type 0
GoodFronts last m n body = (i : ℕ) → i < n → GoodFront last m (handler_part m body i)

-- Bits were gathered where the front of each block is good, and they are a number exactly where the numbers of all blocks fit.
abbrev pub BlocksSeen : ℕ → ℕ → ℕ → List ℕ → Option ℕ → Type 0
BlocksSeen last m n body seen = MatchOption seen (GoodFronts last m n body → ⊥)
    (λ bits. GoodFronts last m n body × ((bits ≤ most_number) ↔ ((i : ℕ) → i < n → NumbersFit m (handler_part m body i))))
