-- A change of the transaction's numbers of one handler, where they lie in the body: its block holds the handler with these numbers, and
-- the words hold the register with that handler.
use Prim.Native.Nat.{ℕ, ◌+◌, ◌*◌, ◌≤◌, ◌<◌}
use mathlib.Core.Path.{◌≡◌, sym, ap, ◌∙◌, subst}
use mathlib.Core.List.{List}
use native.Mathlib.Omega.{arith}
use native.Mathlib.Nat.{add_assoc}
use lib.ListN.{get_or}
use Rattle.rules.specs.steps.Register.{Handler, Register, with_handler}
use Rattle.layout.specs.Rows.{Untouched}
use Rattle.layout.specs.Places.{handler_long, handler_start, handler_part, transaction_from}
use Rattle.layout.specs.View.{Holds}
use Rattle.layout.proofs.Rows.{part_at, part_length}
use Rattle.layout.proofs.Places.{handler_fits}
use Rattle.layout.proofs.Blocks.{HoldsHandler, handler_is, poured_handler}
use Rattle.layout.proofs.OneHandler.{handler_changed}

-- The handler with other numbers of its transaction.
abbrev pub with_transaction : Handler ℕ → (ℕ → ℕ) → Handler ℕ
with_transaction h table = record {
  phase = h.phase;
  read_set = h.read_set;
  written_set = h.written_set;
  numbers = h.numbers;
  transaction = table;
  copies = h.copies;
}

module _ {m n : ℕ} {r : Register ℕ} {rest words : List ℕ} (holds : Holds m n r rest words) where
  -- The block of a handler holds it.
  block_held : (i : ℕ) → i < n → HoldsHandler m (r.handlers i) (handler_part m words i)
  block_held i inside = subst (HoldsHandler m (r.handlers i)) (sym (holds.handlers i inside)) (poured_handler m (r.handlers i))

  module _ {after : List ℕ} {table : ℕ → ℕ} (i : ℕ) (inside : i < n)
      (same : Untouched (handler_start m i + transaction_from m) m words after)
      (changed : (y : ℕ) → y < m → get_or after (handler_start m i + transaction_from m + y) 0 ≡ table y) where
    -- The block as it was.
    before : HoldsHandler m (r.handlers i) (handler_part m words i)
    before = block_held i inside

    -- The block as it is.
    abbrev block : List ℕ
    block = handler_part m after i

    -- A word of the block is as before, if that word of the body is.
    still : (k : ℕ) → k < handler_long m → get_or after (handler_start m i + k) 0 ≡ get_or words (handler_start m i + k) 0
        → get_or block k 0 ≡ get_or (handler_part m words i) k 0
    still k l e = part_at (handler_start m i) (handler_long m) after k l ∙ e ∙ sym (part_at (handler_start m i) (handler_long m) words k l)

    -- In front of the transaction's numbers the block is as before,
    front : (k : ℕ) → k < transaction_from m → get_or block k 0 ≡ get_or (handler_part m words i) k 0
    front k l = still k (omega arith) (same.below (handler_start m i + k) (omega arith))

    -- and so it is behind them.
    behind : (k : ℕ) → transaction_from m + m ≤ k → k < handler_long m → get_or block k 0 ≡ get_or (handler_part m words i) k 0
    behind k l ends = still k ends (same.above (handler_start m i + k) (omega arith))

    -- A number of the transaction.
    number : (y : ℕ) → y < m → get_or block (transaction_from m + y) 0 ≡ table y
    number y l =
        part_at (handler_start m i) (handler_long m) after (transaction_from m + y) (omega arith)
        ∙ ap (λ (place : ℕ). get_or after place 0) (sym (add_assoc (handler_start m i) (transaction_from m) y)) ∙ changed y l

    -- The block holds the handler with the other numbers.
    row_held : HoldsHandler m (with_transaction (r.handlers i) table) (handler_part m after i)
    row_held = record {
      size = part_length (handler_start m i) (handler_long m) after (omega (arith, handler_fits m n i inside, holds.fits, same.size));
      phase = front 0 (omega arith) ∙ before.phase;
      read_set = front 1 (omega arith) ∙ before.read_set;
      written_set = front 2 (omega arith) ∙ before.written_set;
      numbers = λ y l. front (3 + y) (omega arith) ∙ before.numbers y l;
      transaction = number;
      copies = λ y l. behind (3 + 2 * m + y) (omega arith) (omega arith) ∙ before.copies y l;
    }

    -- The words hold the register with that handler.
    pub row_changed : Holds m n (with_handler r i (with_transaction (r.handlers i) table)) rest after
    row_changed = handler_changed holds i (with_transaction (r.handlers i) table) inside (record {
      fits = omega (arith, handler_fits m n i inside, holds.fits);
      size = same.size;
      below = λ place l. same.below place (omega arith);
      above = λ place l. same.above place (omega arith);
    }) (handler_is m _ _ row_held)
