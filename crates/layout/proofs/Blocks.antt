-- A cell's words and a handler's block, place by place: words with the right entry at each place are the poured ones, poured
-- words have them, words say what they hold, and what good words say they hold.
use Prim.Native.Nat.{ℕ, ◌+◌, ◌*◌, ◌<◌}
use mathlib.Core.Path.{◌≡◌, refl, sym, ap, ap₂, ◌∙◌}
use mathlib.Core.Bool.{Bool, false}
use mathlib.Core.List.{List, [], ◌∷◌, ◌++◌}
use native.Mathlib.Omega.{arith}
use lib.ListN.{length, get_or, drop, length-append}
use lib.Seq.{drop-cons, get_or-append-add}
use Rattle.rules.specs.steps.Register.{Cell, Handler}
use Rattle.rules.proofs.steps.Tables.{SameFrom}
use Rattle.rules.proofs.steps.Confined.{ConfinedHandler}
use Rattle.layout.specs.Bits.{has_bit, mask}
use Rattle.layout.specs.Rows.{row, below}
use Rattle.layout.specs.Places.{cell_long, handler_long, value_in, number_in, phase_in, read_set_in, written_set_in, handler_number_in}
use Rattle.layout.specs.Places.{transaction_number_in, copy_in}
use Rattle.layout.specs.View.{word_setting, view_cell, view_handler, pour_cell, pour_handler}
use Rattle.layout.specs.WellFormed.{NoBitFrom, GoodBlock}
use Rattle.layout.proofs.Bits.{has_mask, mask_has, no_bit_from}
use Rattle.layout.proofs.Rows.{row_length, row_at, row_first, row_behind, row_cut, row_last, below_inside, below_is, below_beyond}

-- The words hold the cell.
pub record HoldsCell (m : ℕ) (c : Cell ℕ) (cell : List ℕ) : Type 0 where
  pub size : length cell ≡ cell_long m
  pub value : value_in cell ≡ c.value
  pub numbers : (y : ℕ) → y < m → number_in cell y ≡ c.numbers y

-- The block holds the handler.
pub record HoldsHandler (m : ℕ) (h : Handler ℕ) (block : List ℕ) : Type 0 where
  pub size : length block ≡ handler_long m
  pub phase : phase_in block ≡ h.phase
  pub read_set : read_set_in block ≡ mask m h.read_set
  pub written_set : written_set_in block ≡ mask m h.written_set
  pub numbers : (y : ℕ) → y < m → handler_number_in block y ≡ h.numbers y
  pub transaction : (y : ℕ) → y < m → transaction_number_in m block y ≡ h.transaction y
  pub copies : (y : ℕ) → y < m → copy_in m block y ≡ h.copies y

-- ── Words that hold are the poured ones ───────────────────────────────

-- Words that hold a cell are its poured words.
pub cell_is : (m : ℕ) (c : Cell ℕ) (cell : List ℕ) → HoldsCell m c cell → cell ≡ pour_cell m c
unfolding pour_cell
cell_is m c cell holds =
    drop-cons cell 0 0 (omega arith) ∙ ap₂ ◌∷◌ holds.value (row_last 1 m c.numbers cell holds.size holds.numbers)

-- A block that holds a handler is its poured block.
pub handler_is : (m : ℕ) (h : Handler ℕ) (block : List ℕ) → HoldsHandler m h block → block ≡ pour_handler m h
unfolding pour_handler
handler_is m h block holds =
    drop-cons block 0 0 (omega arith) ∙ ap₂ ◌∷◌ holds.phase
    (drop-cons block 1 0 (omega arith) ∙ ap₂ ◌∷◌ holds.read_set
    (drop-cons block 2 0 (omega arith) ∙ ap₂ ◌∷◌ holds.written_set vectors))
  where
    copies : drop (3 + m + m) block ≡ row m h.copies
    copies =
        ap (λ (place : ℕ). drop place block) (let doubled : 3 + m + m ≡ 3 + 2 * m = omega arith in doubled)
        ∙ row_last (3 + 2 * m) m h.copies block (omega (arith, holds.size)) holds.copies

    vectors : drop 3 block ≡ row m h.numbers ++ (row m h.transaction ++ row m h.copies)
    vectors =
        row_cut 3 m h.numbers block (omega (arith, holds.size)) holds.numbers
        ∙ ap (λ (rest : List ℕ). row m h.numbers ++ rest)
        (row_cut (3 + m) m h.transaction block (omega (arith, holds.size)) holds.transaction
        ∙ ap (λ (rest : List ℕ). row m h.transaction ++ rest) copies)

-- ── Poured words hold ─────────────────────────────────────────────────

-- A cell's poured words hold it.
pub poured_cell : (m : ℕ) (c : Cell ℕ) → HoldsCell m c (pour_cell m c)
unfolding pour_cell
poured_cell m c = record {
  size = omega (arith, row_length m c.numbers);
  value = refl;
  numbers = λ y h. get_or-append-add (c.value ∷ []) (row m c.numbers) y 0 ∙ row_at m c.numbers y h;
}

-- A handler's poured block holds it.
pub poured_handler : (m : ℕ) (h : Handler ℕ) → HoldsHandler m h (pour_handler m h)
unfolding pour_handler
poured_handler m h = record {
  size = simp (length-append, row_length) (omega arith);
  phase = refl;
  read_set = refl;
  written_set = refl;
  numbers = λ y l. behind (3 + y) y refl ∙ row_first m h.numbers _ y l;
  transaction = λ y l. behind (3 + m + y) (m + y) (omega arith) ∙ row_behind m _ _ y ∙ row_first m h.transaction _ y l;
  copies = λ y l. behind (3 + 2 * m + y) (m + (m + y)) (omega arith)
      ∙ row_behind m _ _ (m + y) ∙ row_behind m _ _ y ∙ row_at m h.copies y l;
}
  where
    head : List ℕ
    head = h.phase ∷ mask m h.read_set ∷ mask m h.written_set ∷ []

    vectors : List ℕ
    vectors = row m h.numbers ++ (row m h.transaction ++ row m h.copies)

    behind : (place y : ℕ) → place ≡ 3 + y → get_or (pour_handler m h) place 0 ≡ get_or vectors y 0
    behind place y e = ap (λ (k : ℕ). get_or (pour_handler m h) k 0) e ∙ get_or-append-add head vectors y 0

-- ── What words say ────────────────────────────────────────────────────

-- Words that hold a cell say it, if its numbers beyond m are 0.
pub view_cell_is : (m : ℕ) (c : Cell ℕ) (cell : List ℕ) → SameFrom m 0 c.numbers → HoldsCell m c cell → view_cell m cell ≡ c
unfolding view_cell
view_cell_is m c cell beyond holds = λ i. record {
  value = holds.value i;
  numbers = below_is m 0 (number_in cell) c.numbers holds.numbers beyond i;
}

-- A word that is the word of a set says that set, if no cell beyond m is in it.
set_is : (m word : ℕ) (set : ℕ → Bool) → word ≡ mask m set → SameFrom m false set → below m false (has_bit word) ≡ set
set_is m word set e beyond =
    below_is m false (has_bit word) set (λ c h. ap (λ (w : ℕ). has_bit w c) e ∙ has_mask m set c h) beyond

-- A block that holds a handler says it, if it is confined.
pub view_handler_is : (m : ℕ) (h : Handler ℕ) (block : List ℕ) → ConfinedHandler (word_setting m) h → HoldsHandler m h block
    → view_handler m block ≡ h
unfolding view_handler
view_handler_is m h block confined holds = λ i. record {
  phase = holds.phase i;
  read_set = set_is m (read_set_in block) h.read_set holds.read_set confined.read_set i;
  written_set = set_is m (written_set_in block) h.written_set holds.written_set confined.written_set i;
  numbers = below_is m 0 (handler_number_in block) h.numbers holds.numbers confined.numbers i;
  transaction = below_is m 0 (transaction_number_in m block) h.transaction holds.transaction confined.transaction i;
  copies = below_is m 0 (copy_in m block) h.copies holds.copies confined.copies i;
}

-- Words of a cell's length hold what they say.
pub viewed_cell : (m : ℕ) (cell : List ℕ) → length cell ≡ cell_long m → HoldsCell m (view_cell m cell) cell
unfolding view_cell
viewed_cell m cell size = record {
  size = size;
  value = refl;
  numbers = λ y h. sym (below_inside m 0 (number_in cell) y h);
}

-- A set's word without bits from m on is the word of the set that it says.
set_held : (m word : ℕ) → NoBitFrom m word → word ≡ mask m (below m false (has_bit word))
set_held m word none =
    sym (mask_has m word ((no_bit_from m word).0 none))
    ∙ ap (mask m) (sym (below_is m false (has_bit word) (has_bit word) (λ c _. refl) none))

-- A good block of a handler's length holds what it says.
pub viewed_handler : (m : ℕ) (block : List ℕ) → length block ≡ handler_long m → GoodBlock m block
    → HoldsHandler m (view_handler m block) block
unfolding view_handler
viewed_handler m block size good = record {
  size = size;
  phase = refl;
  read_set = set_held m (read_set_in block) good.read_set;
  written_set = set_held m (written_set_in block) good.written_set;
  numbers = λ y h. sym (below_inside m 0 (handler_number_in block) y h);
  transaction = λ y h. sym (below_inside m 0 (transaction_number_in m block) y h);
  copies = λ y h. sym (below_inside m 0 (copy_in m block) y h);
}

-- What a block says is confined.
pub viewed_confined : (m : ℕ) (block : List ℕ) → ConfinedHandler (word_setting m) (view_handler m block)
unfolding view_handler
viewed_confined m block = record {
  read_set = below_beyond m false (has_bit (read_set_in block));
  written_set = below_beyond m false (has_bit (written_set_in block));
  numbers = below_beyond m 0 (handler_number_in block);
  transaction = below_beyond m 0 (transaction_number_in m block);
  copies = below_beyond m 0 (copy_in m block);
}
