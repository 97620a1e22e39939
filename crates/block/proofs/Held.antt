-- A write and a read that joins, store by store: a block of an open handler, which holds it, holds afterwards the handler with
-- the cell in its set.
use Rattle.std.proofs.Common.{ℕ, ◌+◌, ◌*◌, ◌<◌, max, ◌≡◌, ap, ◌∙◌, List, arith, length, length-set, get_or, set}
use Rattle.std.proofs.lemmas.Grind.{common_steps}
use Rattle.rules.specs.steps.Register.{Handler}
use Rattle.rules.specs.steps.Figure.{wrote}
use Rattle.layout.specs.Bits.{mask, with_bit}
use Rattle.layout.specs.Places.{phase_in, read_set_in, written_set_in, transaction_number_in}
use Rattle.layout.proofs.Blocks.{HoldsHandler}
use Rattle.words.specs.Rows.{Changed}
use Rattle.block.specs.Blocks.{row_table, joined_with}
use Rattle.block.proofs.Stores.{stored_row, set_joins}

module _ {m : ℕ} {h : Handler ℕ} {block : List ℕ} (holds : HoldsHandler m h block) (opened : phase_in block ≡ 1) {x : ℕ} (inside : x < m) where
  -- A write stores the copy, and then the written set with one cell more.
  pub wrote_held : {at word : ℕ} (value : ℕ) → at ≡ 3 + 2 * m + x → word ≡ with_bit (written_set_in (set block at value)) x
      → HoldsHandler m (wrote h x value) (set (set block at value) 2 word)
  unfolding wrote
  wrote_held {at} {word} value place joins = record {
    size = simp length-set holds.size;
    phase = grind (arith, common_steps);
    read_set = grind (arith, common_steps);
    written_set = here ∙ joins ∙ ap (λ set. with_bit set x) before ∙ set_joins m x h.written_set inside;
    numbers = λ y l. let same = holds.numbers y l in grind (arith, common_steps);
    transaction = λ y l. let same = holds.transaction y l in grind (arith, common_steps);
    copies = λ y l. let same = stored_row (3 + 2 * m) x at value h.copies block place (omega (arith, holds.size)) holds.copies y l in
        grind (arith, common_steps);
  }
    where
      here : written_set_in (set (set block at value) 2 word) ≡ word
      here = grind (arith, common_steps, holds.size)

      before : written_set_in (set block at value) ≡ mask m h.written_set
      before = let same = holds.written_set in grind (arith, common_steps)

  -- A read that joins raises the numbers, stores the cell's own, then the read set with one cell more, and then the copy.
  pub joined_held : {raised : List ℕ} {own at word : ℕ} (value : ℕ) (row : List ℕ)
      → Changed (3 + m) m (λ y. max (transaction_number_in m block y) (row_table row y)) block raised
      → own ≡ 3 + m + x → word ≡ with_bit (read_set_in block) x → at ≡ 3 + 2 * m + x
      → HoldsHandler m (joined_with h x value (row_table row)) (set (set (set raised own (row_table row x)) 1 word) at value)
  unfolding joined_with
  joined_held {raised} {own} {at} {word} value row raises placed joins place = record {
    size = simp length-set size;
    phase = let same = raises.untouched.below 0 (omega arith) in grind (arith, common_steps);
    read_set = here ∙ joins ∙ ap (λ set. with_bit set x) holds.read_set ∙ set_joins m x h.read_set inside;
    written_set = let same = raises.untouched.below 2 (omega arith) in let held = holds.written_set in grind (arith, common_steps);
    numbers = λ y l. let same = raises.untouched.below (3 + y) (omega arith) in let held = holds.numbers y l in grind (arith, common_steps);
    transaction = λ y l. let same = stored_row (3 + m) x own (row_table row x) (λ z. max (h.transaction z) (row_table row z)) raised placed
        (omega (arith, size)) numbered y l in grind (arith, common_steps);
    copies = stored_row (3 + 2 * m) x at value h.copies _ place (simp length-set (omega (arith, size))) copied;
  }
    where
      size : length raised ≡ 3 + 3 * m
      size = raises.untouched.size ∙ holds.size

      here : read_set_in (set (set (set raised own (row_table row x)) 1 word) at value) ≡ word
      here = grind (arith, common_steps, size)

      numbered : (y : ℕ) → y < m → get_or raised (3 + m + y) 0 ≡ max (h.transaction y) (row_table row y)
      numbered y l = raises.inside y l ∙ ap (λ held. max held (row_table row y)) (holds.transaction y l)

      copied : (y : ℕ) → y < m → get_or (set (set raised own (row_table row x)) 1 word) (3 + 2 * m + y) 0 ≡ h.copies y
      copied y l =
          let same = raises.untouched.above (3 + 2 * m + y) (omega arith) in let held = holds.copies y l in grind (arith, common_steps)
