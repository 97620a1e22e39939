-- A block at a transaction's begin and at its end. It is written from the front: three words, the handler's numbers, and what is
-- behind them, which leaves the front as it was.
use Rattle.std.proofs.Common.{ℕ, ◌+◌, ◌*◌, ◌≤◌, ◌<◌, ◌≡◌, sym, ap, ◌∙◌, List, arith, length, length-set, get_or, set}
use Rattle.std.proofs.lemmas.Grind.{common_steps}
use Rattle.rules.specs.steps.Register.{Handler, no_cells, zeros, idle}
use Rattle.rules.specs.steps.Figure.{begun}
use Rattle.layout.specs.Places.{handler_long, phase_in, read_set_in, written_set_in, handler_number_in, transaction_from}
use Rattle.layout.specs.Places.{transaction_number_in, copy_in}
use Rattle.layout.specs.View.{word_setting, view_handler, pour_handler}
use Rattle.layout.proofs.Bits.{mask_none}
use Rattle.layout.proofs.Rows.{below_inside, below_is, below_beyond}
use Rattle.layout.proofs.Blocks.{handler_is}
use Rattle.layout.specs.Rows.{Untouched, below}
use Rattle.words.specs.Rows.{Changed}

-- The block begins with a phase, two empty sets and a table of numbers.
pub record Headed (m word : ℕ) (table : ℕ → ℕ) (block : List ℕ) : Type 0 where
  pub size : length block ≡ handler_long m
  pub phase : phase_in block ≡ word
  pub read_set : read_set_in block ≡ 0
  pub written_set : written_set_in block ≡ 0
  pub numbers : (y : ℕ) → y < m → handler_number_in block y ≡ table y

-- The words of a block after the three stores that each begin and end makes first.
abbrev pub with_head : ℕ → List ℕ → List ℕ
with_head word block = set (set (set block 0 word) 1 0) 2 0

-- After these stores a block begins so, with the numbers that it said before.
pub headed : (m word : ℕ) (block : List ℕ) → length block ≡ handler_long m
    → Headed m word (view_handler m block).numbers (with_head word block)
unfolding view_handler
headed m word block size = record {
  size = simp length-set size;
  phase = grind (arith, common_steps);
  read_set = grind (arith, common_steps);
  written_set = grind (arith, common_steps);
  numbers = λ y h. sym (below_inside m 0 (handler_number_in block) y h ∙ grind (arith, common_steps));
}

-- What changes behind the handler's numbers leaves the front.
headed_still : {m word from long : ℕ} {table : ℕ → ℕ} {block after : List ℕ} → Headed m word table block → 3 + m ≤ from
    → Untouched from long block after → Headed m word table after
headed_still head behind same = record {
  size = same.size ∙ head.size;
  phase = same.below 0 (omega arith) ∙ head.phase;
  read_set = same.below 1 (omega arith) ∙ head.read_set;
  written_set = same.below 2 (omega arith) ∙ head.written_set;
  numbers = λ y h. same.below (3 + y) (omega arith) ∙ head.numbers y h;
}

-- A handler with empty sets and cleared copies.
abbrev emptied : ℕ → (ℕ → ℕ) → (ℕ → ℕ) → Handler ℕ
emptied phase numbers transaction = record {
  phase = phase;
  read_set = no_cells;
  written_set = no_cells;
  numbers = numbers;
  transaction = transaction;
  copies = zeros;
}

-- A block that begins so, with the transaction's numbers and cleared copies behind, is that handler's.
headed_is : {m : ℕ} {numbers transaction : ℕ → ℕ} {block : List ℕ} (phase : ℕ) → Headed m phase numbers block
    → ((y : ℕ) → y < m → transaction_number_in m block y ≡ transaction y) → ((y : ℕ) → y < m → copy_in m block y ≡ 0)
    → block ≡ pour_handler m (emptied phase numbers transaction)
headed_is {m} phase head held cleared = handler_is m _ _ (record {
  size = head.size;
  phase = head.phase;
  read_set = head.read_set ∙ sym (mask_none m);
  written_set = head.written_set ∙ sym (mask_none m);
  numbers = head.numbers;
  transaction = held;
  copies = cleared;
})

module _ {m : ℕ} {block : List ℕ} where
  -- An abort: all behind the handler's numbers is cleared.
  pub rests : {numbers : ℕ → ℕ} {after : List ℕ} → Headed m 0 numbers block → Changed (3 + m) (2 * m) zeros block after
      → after ≡ pour_handler m (idle (word_setting m) numbers)
  unfolding idle
  rests {after = after} head changed = headed_is 0 (headed_still head (omega arith) changed.untouched)
      (λ y h. changed.inside y (omega arith))
      (λ y h. ap (λ k. get_or after k 0) (copies y) ∙ changed.inside (m + y) (omega arith))
    where
      copies : (y : ℕ) → 3 + 2 * m + y ≡ 3 + m + (m + y)
      copies y = omega arith

  -- A begin: the handler's numbers are copied behind them, and the copies are cleared.
  pub begins : {copied after : List ℕ} (h : Handler ℕ) → Headed m 1 h.numbers block
      → Changed (3 + m) m (handler_number_in block) block copied → Changed (3 + 2 * m) m zeros copied after
      → after ≡ pour_handler m (begun (word_setting m) h)
  unfolding begun
  begins h head copies clears = headed_is 1
      (headed_still (headed_still head (omega arith) copies.untouched) (omega arith) clears.untouched)
      (λ y l. clears.untouched.below (3 + m + y) (omega arith) ∙ copies.inside y l ∙ head.numbers y l)
      clears.inside

-- A commit: with the transaction's numbers copied to the handler's place, the handler's numbers are the transaction's.
pub settles : {m from : ℕ} {block after : List ℕ} → from ≡ transaction_from m → Changed 3 m (λ y. get_or block (from + y) 0) block after
    → (view_handler m after).numbers ≡ (view_handler m block).transaction
unfolding view_handler
settles {m} {from} {block} {after} placed copies =
    below_is m 0 (handler_number_in after) (below m 0 (transaction_number_in m block)) same (below_beyond m 0 (transaction_number_in m block))
  where
    same : (y : ℕ) → y < m → handler_number_in after y ≡ below m 0 (transaction_number_in m block) y
    same y h =
        copies.inside y h ∙ ap (λ place. get_or block (place + y) 0) placed ∙ sym (below_inside m 0 (transaction_number_in m block) y h)
