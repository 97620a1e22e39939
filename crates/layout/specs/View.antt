-- From words to the register that they say, and from a register to its words. A view is a whole table: beyond the register's
-- cells and handlers it holds what a fresh register holds.
use Rattle.std.specs.Prelude.{ℕ, ◌≤◌, ◌<◌, ◌≡◌, false, List, ◌∷◌, ◌++◌, length, drop}
use Rattle.rules.specs.steps.Codes.{plain_sheet}
use Rattle.rules.specs.steps.Register.{Setting, numbers_under, Cell, Handler, Register, zeros, idle, blank}
use Rattle.layout.specs.Bits.{has_bit, mask}
use Rattle.layout.specs.Rows.{row, rows, below}
use Rattle.layout.specs.Places.{cells_of, handlers_of, body_long, body_of, cell_part, handler_part, value_in, number_in, phase_in, read_set_in}
use Rattle.layout.specs.Places.{written_set_in, handler_number_in, transaction_number_in, copy_in}

-- The rules over words, under the plain sheet: values are words, and an unwritten cell and a cleared copy hold 0.
abbrev pub word_setting : ℕ → Setting ℕ
word_setting m = numbers_under plain_sheet m

-- The cell that some words say.
unfoldable pub view_cell : ℕ → List ℕ → Cell ℕ
view_cell m cell = record { value = value_in cell; numbers = below m 0 (number_in cell) }

-- The handler that a block says.
unfoldable pub view_handler : ℕ → List ℕ → Handler ℕ
view_handler m block = record {
  phase = phase_in block;
  read_set = below m false (has_bit (read_set_in block));
  written_set = below m false (has_bit (written_set_in block));
  numbers = below m 0 (handler_number_in block);
  transaction = below m 0 (transaction_number_in m block);
  copies = below m 0 (copy_in m block);
}

-- The register of m cells and n handlers that a body says.
unfoldable pub view : ℕ → ℕ → List ℕ → Register ℕ
view m n body = record {
  cells = below m (blank (word_setting m)) (λ c. view_cell m (cell_part m body c));
  handlers = below n (idle (word_setting m) zeros) (λ i. view_handler m (handler_part m body i));
}

-- The words of a cell.
unfoldable pub pour_cell : ℕ → Cell ℕ → List ℕ
pour_cell m c = c.value ∷ row m c.numbers

-- The words of a handler.
unfoldable pub pour_handler : ℕ → Handler ℕ → List ℕ
pour_handler m h =
    h.phase ∷ mask m h.read_set ∷ mask m h.written_set ∷
    (row m h.numbers ++ (row m h.transaction ++ row m h.copies))

-- The body of a register of m cells and n handlers, and no more.
unfoldable pub pour : ℕ → ℕ → Register ℕ → List ℕ
pour m n r = rows m (λ c. pour_cell m (r.cells c)) ++ rows n (λ i. pour_handler m (r.handlers i))

-- The words with the body of a register of m cells and n handlers in front; words beyond it stay as they were.
abbrev pub holding : List ℕ → ℕ → ℕ → Register ℕ → List ℕ
holding body m n r = pour m n r ++ drop (body_long m n) body

-- The words hold the register of m cells and n handlers, and behind it the rest.
pub record Holds (m n : ℕ) (r : Register ℕ) (rest words : List ℕ) : Type 0 where
  pub fits : body_long m n ≤ length words
  pub cells : (c : ℕ) → c < m → cell_part m words c ≡ pour_cell m (r.cells c)
  pub handlers : (i : ℕ) → i < n → handler_part m words i ≡ pour_handler m (r.handlers i)
  pub beyond : drop (body_long m n) words ≡ rest

-- ── The plain register: m, n, and the body ────────────────────────────

-- The register that the words say.
abbrev pub viewed : List ℕ → Register ℕ
viewed words = view (cells_of words) (handlers_of words) (body_of words)

-- The words with a register of m cells and n handlers in front; words beyond its length stay as they were.
abbrev pub register_in : List ℕ → ℕ → ℕ → Register ℕ → List ℕ
register_in words m n r = m ∷ n ∷ holding (body_of words) m n r
