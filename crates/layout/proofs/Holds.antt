-- Words that hold a register's body, part by part: each cell's words, each handler's block, and what lies beyond. They are
-- exactly the register's poured words with that behind them.
use Prim.Native.Nat.{ℕ, ◌+◌, ◌*◌, ◌≤◌}
use mathlib.Core.Path.{◌≡◌, sym, ap, ◌∙◌}
use mathlib.Core.List.{List, [], ◌∷◌, ◌++◌, append_assoc}
use native.Mathlib.Omega.{arith}
use native.Mathlib.Nat.{zero-add}
use lib.ListN.{length, take, drop, length-append, length-drop}
use lib.Seq.{drop-drop, drop_at, drop-append-add}
use Rattle.rules.specs.steps.Register.{Register}
use Rattle.layout.specs.Rows.{rows}
use Rattle.layout.specs.Places.{cell_long, handler_long, body_long, size, body_of}
use Rattle.layout.specs.View.{pour_cell, pour_handler, pour, Holds, register_in}
use Rattle.layout.proofs.Rows.{rows_length, rows_part, rows_cut}
use Rattle.layout.proofs.Places.{handlers_start}
use Rattle.layout.proofs.Blocks.{poured_cell, poured_handler}

-- The words of all cells.
abbrev pub cell_rows : ℕ → Register ℕ → List ℕ
cell_rows m r = rows m (λ c. pour_cell m (r.cells c))

-- The blocks of all handlers.
abbrev pub handler_rows : ℕ → ℕ → Register ℕ → List ℕ
handler_rows m n r = rows n (λ i. pour_handler m (r.handlers i))

-- Words that hold a register are its poured words, with the rest behind them.
pub holds_is : {m n : ℕ} {r : Register ℕ} {rest words : List ℕ} → Holds m n r rest words → words ≡ pour m n r ++ rest
unfolding pour
holds_is {m} {n} {r} {rest} {words} holds =
    rows_cut 0 m (cell_long m) (λ c. pour_cell m (r.cells c)) words (λ c h. simp zero-add (holds.cells c h))
    ∙ ap (λ (end : List ℕ). cell_rows m r ++ end) (simp zero-add from_handlers) ∙ sym (append_assoc (cell_rows m r) (handler_rows m n r) rest)
  where
    from_handlers : drop (handlers_start m) words ≡ handler_rows m n r ++ rest
    from_handlers =
        rows_cut (handlers_start m) n (handler_long m) _ words holds.handlers
        ∙ ap (λ (end : List ℕ). handler_rows m n r ++ end) holds.beyond

module _ (m n : ℕ) (r : Register ℕ) where
  -- The words of all cells are m times a cell's.
  cells_length : length (cell_rows m r) ≡ m * cell_long m
  cells_length = rows_length m (cell_long m) _ (λ c _. (poured_cell m (r.cells c)).size)

  -- The blocks of all handlers are n times a handler's.
  handlers_length : length (handler_rows m n r) ≡ n * handler_long m
  handlers_length = rows_length n (handler_long m) _ (λ i _. (poured_handler m (r.handlers i)).size)

  -- A register's poured words are as many as its size says.
  pub pour_length : length (pour m n r) ≡ body_long m n
  unfolding pour
  pour_length = omega (arith, length-append (cell_rows m r) (handler_rows m n r), cells_length, handlers_length)

  module _ (rest : List ℕ) where
    -- Poured words with more behind them are the cells, then the handlers and that.
    poured_is : pour m n r ++ rest ≡ cell_rows m r ++ (handler_rows m n r ++ rest)
    unfolding pour
    poured_is = append_assoc (cell_rows m r) (handler_rows m n r) rest

    -- The words from a place behind the cells.
    past_cells : (place : ℕ) → drop (handlers_start m + place) (pour m n r ++ rest) ≡ drop place (handler_rows m n r ++ rest)
    past_cells place =
        sym (drop-drop place (handlers_start m) (pour m n r ++ rest))
        ∙ ap (drop place) (ap (drop (handlers_start m)) poured_is ∙ drop_at (cell_rows m r) _ (m * cell_long m) cells_length)

    -- Poured words hold their register, and behind it whatever is behind them.
    pub pour_holds : Holds m n r rest (pour m n r ++ rest)
    pour_holds = record {
      fits = omega (arith, length-append (pour m n r) rest, pour_length);
      cells = λ c h. ap (λ (body : List ℕ). take (cell_long m) (drop (c * cell_long m) body)) poured_is
          ∙ rows_part m (cell_long m) _ (λ x _. (poured_cell m (r.cells x)).size) (handler_rows m n r ++ rest) c h;
      handlers = λ i h. ap (take (handler_long m)) (past_cells (i * handler_long m))
          ∙ rows_part n (handler_long m) _ (λ j _. (poured_handler m (r.handlers j)).size) rest i h;
      beyond = drop_at (pour m n r) rest (body_long m n) pour_length;
    }

  -- Poured over the front of words that are long enough, a register leaves them as long.
  pub pour_over_length : (words : List ℕ) → body_long m n ≤ length words → length (pour m n r ++ drop (body_long m n) words) ≡ length words
  pour_over_length words fits = simp (length-append, length-drop) (omega (arith, pour_length))

  -- A register in front of words that are long enough leaves them as long.
  pub register_length : (words : List ℕ) → size m n ≤ length words → length (register_in words m n r) ≡ length words
  register_length words fits =
      let enough : body_long m n ≤ length (body_of words) = omega (arith, length-drop 2 words) in
      omega (arith, pour_over_length (body_of words) enough, length-drop 2 words)

  -- Words beyond a register in front are as they were.
  pub register_beyond : (words : List ℕ) → drop (size m n) (register_in words m n r) ≡ drop (size m n) words
  register_beyond words =
      drop-append-add (m ∷ n ∷ []) (pour m n r ++ drop (body_long m n) (body_of words)) (body_long m n)
      ∙ drop_at (pour m n r) _ (body_long m n) pour_length ∙ drop-drop (body_long m n) 2 words
