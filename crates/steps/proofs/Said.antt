-- What single words of a register say: a handler's phase, whether a cell is in a set, a number of the transaction, a local copy, and a
-- cell's value and numbers.
use Prim.Native.Nat.{ℕ, ◌+◌, ◌*◌, ◌≤◌, ◌<◌}
use mathlib.Core.Path.{◌≡◌, refl, sym, ap, ◌∙◌, subst}
use mathlib.Core.Bool.{false, not}
use mathlib.Core.List.{List}
use native.Mathlib.Omega.{arith}
use lib.Dec.{eqb}
use lib.ListN.{length, get_or}
use Rattle.rules.specs.steps.Register.{has_open}
use Rattle.layout.specs.Bits.{has_bit}
use Rattle.layout.specs.Places.{cell_start, own_at, handler_start, cell_long, handler_long, cell_part, handler_part, number_in}
use Rattle.layout.specs.Places.{transaction_from, copies_from, transaction_number_in, copy_in}
use Rattle.layout.specs.View.{view, view_cell, view_handler}
use Rattle.layout.specs.WellFormed.{NoBitFrom}
use Rattle.layout.proofs.Rows.{part_at, below_inside}
use Rattle.layout.proofs.ViewPour.{view_cell_lem, view_handler_lem}
use Rattle.searches.specs.Searches.{Among}
use Rattle.steps.specs.Takes.{Seated}

module _ {m n i : ℕ} {words : List ℕ} (seated : Seated m n words i) where
  -- A word of the handler's block, by its place in the words.
  block_word : (start k : ℕ) → start ≡ handler_start m i → k < handler_long m → get_or (handler_part m words i) k 0 ≡ get_or words (start + k) 0
  block_word start k e inside = part_at (handler_start m i) (handler_long m) words k inside ∙ ap (λ a. get_or words (a + k) 0) (sym e)

  module _ {start : ℕ} (starts : start ≡ handler_start m i) where
    -- The handler's block says the handler.
    said : view_handler m (handler_part m words i) ≡ (view m n words).handlers i
    said = sym (view_handler_lem m n words i seated.handler)

    -- The first word says whether the transaction is open.
    pub phase_said : not (eqb (get_or words (start + 0) 0) 0) ≡ has_open ((view m n words).handlers i)
    unfolding view_handler
    phase_said = ap (λ word. not (eqb word 0)) (sym (block_word start 0 starts (omega arith))) ∙ ap has_open said

    -- All cells lie in the words.
    cells_there : m * cell_long m ≤ length words
    cells_there = omega (arith, seated.formed.good.long)

    -- The read set is one of some cells of the body,
    pub read_among : Among m (get_or words (start + 1) 0) words
    read_among = record {
      few = seated.formed.few;
      below = subst (NoBitFrom m) (block_word start 1 starts (omega arith)) (seated.formed.good.blocks i seated.handler).read_set;
      cells = cells_there;
    }

    -- and so is the written set.
    pub written_among : Among m (get_or words (start + 2) 0) words
    written_among = record {
      few = seated.formed.few;
      below = subst (NoBitFrom m) (block_word start 2 starts (omega arith)) (seated.formed.good.blocks i seated.handler).written_set;
      cells = cells_there;
    }

    module _ (x : ℕ) (inside : x < m) where
      -- The second word says whether a cell is in the read set.
      pub read_said : has_bit (get_or words (start + 1) 0) x ≡ ((view m n words).handlers i).read_set x
      unfolding view_handler
      read_said =
          ap (λ word. has_bit word x) (sym (block_word start 1 starts (omega arith)))
          ∙ sym (below_inside m false _ x inside) ∙ ap (λ h. h.read_set x) said

      -- The third word says whether a cell is in the written set.
      pub written_said : has_bit (get_or words (start + 2) 0) x ≡ ((view m n words).handlers i).written_set x
      unfolding view_handler
      written_said =
          ap (λ word. has_bit word x) (sym (block_word start 2 starts (omega arith)))
          ∙ sym (below_inside m false _ x inside) ∙ ap (λ h. h.written_set x) said

      -- A word of a row of the block, by a place that was computed.
      row_word : {place : ℕ} (from : ℕ) → place ≡ from → from + m ≤ handler_long m
          → get_or words (start + place + x) 0 ≡ get_or (handler_part m words i) (from + x) 0
      row_word {place} from placed fits =
          ap (λ k. get_or words k 0) (let same : start + place + x ≡ start + (from + x) = omega arith in same)
          ∙ sym (block_word start (from + x) starts (omega arith))

      -- The words behind the handler's numbers are the transaction's.
      pub transaction_said : {place : ℕ} → place ≡ transaction_from m
          → get_or words (start + place + x) 0 ≡ ((view m n words).handlers i).transaction x
      unfolding view_handler
      transaction_said placed =
          row_word (transaction_from m) placed (omega arith)
          ∙ sym (below_inside m 0 (transaction_number_in m (handler_part m words i)) x inside) ∙ ap (λ h. h.transaction x) said

      -- The words behind the two vectors are the copies.
      pub copy_said : {place : ℕ} → place ≡ copies_from m → get_or words (start + place + x) 0 ≡ ((view m n words).handlers i).copies x
      unfolding view_handler
      copy_said placed =
          row_word (copies_from m) placed (omega arith)
          ∙ sym (below_inside m 0 (copy_in m (handler_part m words i)) x inside) ∙ ap (λ h. h.copies x) said

module _ (n : ℕ) (words : List ℕ) {m x : ℕ} (inside : x < m) where
  -- The cell that the words say.
  cell_says : view_cell m (cell_part m words x) ≡ (view m n words).cells x
  cell_says = sym (view_cell_lem m n words x inside)

  module _ {start : ℕ} (starts : start ≡ cell_start m x) where
    -- A word of the cell, by its place in the words.
    cell_word : (k : ℕ) → k < cell_long m → get_or words (start + k) 0 ≡ get_or (cell_part m words x) k 0
    cell_word k h = ap (λ a. get_or words (a + k) 0) starts ∙ sym (part_at (cell_start m x) (cell_long m) words k h)

    -- The words behind a cell's first are its numbers.
    pub number_said : (y : ℕ) → y < m → get_or words (start + 1 + y) 0 ≡ ((view m n words).cells x).numbers y
    unfolding view_cell
    number_said y h =
        ap (λ place. get_or words place 0) (let place : start + 1 + y ≡ start + (1 + y) = omega arith in place)
        ∙ cell_word (1 + y) (omega arith) ∙ sym (below_inside m 0 (number_in (cell_part m words x)) y h) ∙ ap (λ cell. cell.numbers y) cell_says

    -- A cell's first word is its value.
    pub value_said : get_or words (start + 0) 0 ≡ ((view m n words).cells x).value
    unfolding view_cell
    value_said = cell_word 0 (omega arith) ∙ ap (λ cell. cell.value) cell_says

  -- A cell's own number.
  pub own_said : get_or words (own_at m x) 0 ≡ ((view m n words).cells x).numbers x
  own_said =
      ap (λ place. get_or words place 0) (let place : own_at m x ≡ cell_start m x + 1 + x = omega arith in place) ∙ number_said refl x inside
