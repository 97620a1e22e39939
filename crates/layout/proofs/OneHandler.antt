-- A change of one handler changes just that handler's block, and a change of one cell just that cell's words: words that are
-- the same but for that part hold the changed register, and of poured words nothing else is another.
use Prim.Native.Nat.{ℕ, ◌+◌, ◌≤◌, ◌<◌}
use mathlib.Core.Path.{◌≡◌, sym, ◌∙◌, subst}
use mathlib.Core.List.{List, [], ◌++◌, append-nil}
use native.Mathlib.Omega.{arith}
use native.Mathlib.Nat.{zero-add}
use lib.ListN.{length, take, drop}
use Rattle.rules.specs.steps.Tables.{put}
use Rattle.rules.specs.steps.Register.{Cell, Handler, Register, with_handler}
use Rattle.rules.proofs.steps.Tables.{put_map}
use Rattle.layout.specs.Places.{cell_long, handler_long, body_long, cell_start, handler_start, cell_part, handler_part}
use Rattle.layout.specs.View.{pour_cell, pour_handler, pour, Holds}
use Rattle.layout.proofs.Places.{handlers_start, cell_ends, cell_fits, handler_fits}
use Rattle.layout.proofs.Blocks.{poured_cell, poured_handler}
use Rattle.layout.proofs.Holds.{holds_is, pour_holds}
use Rattle.layout.specs.Rows.{splice, Untouched}
use Rattle.layout.proofs.Untouched.{part_before, part_after, drop_after, rows_changed, splice_part, splice_untouched}

-- The register with another cell at place c.
abbrev pub with_cell : Register ℕ → ℕ → Cell ℕ → Register ℕ
with_cell r c cell = record { cells = put r.cells c cell; handlers = r.handlers }

module _ {m n : ℕ} {r : Register ℕ} {rest words after : List ℕ} (holds : Holds m n r rest words) where
  -- Words that are the same but for a part of the body hold whatever register their cells and blocks do.
  pub part_changed : {from long : ℕ} (other : Register ℕ) → from + long ≤ body_long m n → Untouched from long words after
      → ((c : ℕ) → c < m → cell_part m after c ≡ pour_cell m (other.cells c))
      → ((i : ℕ) → i < n → handler_part m after i ≡ pour_handler m (other.handlers i))
      → Holds m n other rest after
  part_changed other ends same cells handlers = record {
    fits = omega (arith, holds.fits, same.size);
    cells = cells;
    handlers = handlers;
    beyond = drop_after same (body_long m n) ends ∙ holds.beyond;
  }

  -- Words with another block for handler i hold the register with that handler.
  pub handler_changed : (i : ℕ) (h : Handler ℕ) → i < n → Untouched (handler_start m i) (handler_long m) words after
      → handler_part m after i ≡ pour_handler m h → Holds m n (with_handler r i h) rest after
  unfolding with_handler
  handler_changed i h inside same here =
      part_changed (with_handler r i h) (handler_fits m n i inside) same cells handlers
    where
      cells : (c : ℕ) → c < m → cell_part m after c ≡ pour_cell m (r.cells c)
      cells c l = part_before same (cell_start m c) (cell_long m) (omega (arith, cell_ends m c l)) ∙ holds.cells c l

      handlers : (j : ℕ) → j < n → handler_part m after j ≡ pour_handler m (put r.handlers i h j)
      handlers j l =
          rows_changed (handlers_start m) n (handler_long m) _ i _ words after same here holds.handlers j l
          ∙ sym (put_map (pour_handler m) r.handlers i h j)

  -- Words with others for cell c hold the register with that cell.
  pub cell_changed : (c : ℕ) (cell : Cell ℕ) → c < m → Untouched (cell_start m c) (cell_long m) words after
      → cell_part m after c ≡ pour_cell m cell → Holds m n (with_cell r c cell) rest after
  cell_changed c cell inside same here =
      part_changed (with_cell r c cell) (cell_fits m n c inside) same cells handlers
    where
      cells : (x : ℕ) → x < m → cell_part m after x ≡ pour_cell m (put r.cells c cell x)
      cells x l =
          (simp zero-add at (rows_changed 0 m (cell_long m) (λ k. pour_cell m (r.cells k)) c (pour_cell m cell) words after)) same here holds.cells x l
          ∙ sym (put_map (pour_cell m) r.cells c cell x)

      handlers : (i : ℕ) → i < n → handler_part m after i ≡ pour_handler m (r.handlers i)
      handlers i l =
          part_after same (handler_start m i) (handler_long m) (omega (arith, cell_ends m c inside)) ∙ holds.handlers i l

module _ {m n : ℕ} {r : Register ℕ} {rest words : List ℕ} (holds : Holds m n r rest words) where
  -- With another block put in, words hold the register with that handler.
  pub block_put : (i : ℕ) (h : Handler ℕ) → i < n
      → Holds m n (with_handler r i h) rest (splice (handler_start m i) (handler_long m) (pour_handler m h) words)
  block_put i h inside =
      handler_changed holds i h inside
      (splice_untouched (handler_start m i) (handler_long m) (pour_handler m h) words (poured_handler m h).size fits)
      (splice_part (handler_start m i) (handler_long m) (pour_handler m h) words (poured_handler m h).size fits)
    where
      fits : handler_start m i + handler_long m ≤ length words
      fits = omega (arith, handler_fits m n i inside, holds.fits)

  -- With other words put in for a cell, words hold the register with that cell.
  pub cell_put : (c : ℕ) (cell : Cell ℕ) → c < m
      → Holds m n (with_cell r c cell) rest (splice (cell_start m c) (cell_long m) (pour_cell m cell) words)
  cell_put c cell inside =
      cell_changed holds c cell inside
      (splice_untouched (cell_start m c) (cell_long m) (pour_cell m cell) words (poured_cell m cell).size fits)
      (splice_part (cell_start m c) (cell_long m) (pour_cell m cell) words (poured_cell m cell).size fits)
    where
      fits : cell_start m c + cell_long m ≤ length words
      fits = omega (arith, cell_fits m n c inside, holds.fits)

-- With another handler i, the words of a register are as before, but for that handler's block.
pub one_handler : (m n : ℕ) (r : Register ℕ) (i : ℕ) (h : Handler ℕ) → i < n
    → pour m n (with_handler r i h)
    ≡ take (handler_start m i) (pour m n r) ++ (pour_handler m h ++ drop (handler_start m i + handler_long m) (pour m n r))
one_handler m n r i h inside = sym (holds_is (block_put before i h inside) ∙ append-nil _)
  where
    before : Holds m n r [] (pour m n r)
    before = subst (Holds m n r []) (append-nil (pour m n r)) (pour_holds m n r [])
