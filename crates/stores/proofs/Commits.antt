-- What a commit's stores come to: over words that hold the register with the handler's numbers raised, with the handler settled behind
-- them, the words hold the rules' register after the commit.
use Prim.Native.Nat.{ℕ, ◌<◌}
use mathlib.Core.Path.{◌≡◌, ap₂, ◌∙◌, fun_ext}
use mathlib.Core.Bool.{Bool}
use mathlib.Core.List.{List, ◌∷◌}
use lib.Dec.{eqb}
use Rattle.rules.specs.steps.Tables.{put}
use Rattle.rules.specs.steps.Register.{Handler, Register, with_handler, idle}
use Rattle.rules.specs.steps.Figure.{stamped, stored, committing}
use Rattle.rules.proofs.steps.Tables.{by}
use Rattle.layout.specs.Rows.{splice}
use Rattle.layout.specs.Places.{handler_start, handler_long}
use Rattle.layout.specs.View.{word_setting, pour_cell, pour_handler, Holds}
use Rattle.layout.proofs.Rows.{row_ext}
use Rattle.layout.proofs.OneHandler.{block_put}
use Rattle.stores.specs.Stores.{stored_where, Stores}

module _ {m : ℕ} {done : ℕ → Bool} {copies numbers : ℕ → ℕ} {words after : List ℕ} where
  -- What is stored of tables is stored of any that are the same below m.
  pub stores_same : (values others : ℕ → ℕ) → Stores m done copies numbers words after
      → ((c : ℕ) → c < m → copies c ≡ values c) → ((y : ℕ) → y < m → numbers y ≡ others y) → Stores m done values others words after
  unfolding stored_where pour_cell
  stores_same values others stores same_values same_numbers = record {
    size = stores.size;
    holds = λ n r rest before. let holds = stores.holds n r rest before in record {
      fits = holds.fits;
      cells = λ c h. holds.cells c h ∙ by (done c)
          (λ e. rw e (ap₂ ◌∷◌ (same_values c h) (row_ext m numbers others same_numbers)))
          (λ e. rw e);
      handlers = holds.handlers;
      beyond = holds.beyond;
    };
  }

module _ (m i : ℕ) (r : Register ℕ) where
  -- The handler that commits.
  abbrev h : Handler ℕ
  h = r.handlers i

  -- With the written cells stored and the handler idle with the numbers, whatever it was before, the register is the rules' after a commit.
  pub commit_is : (before : Handler ℕ) (done : ℕ → Bool) → ((c : ℕ) → done c ≡ h.written_set c)
      → with_handler (stored_where done h.copies (stamped r h) (with_handler r i before)) i (idle (word_setting m) (stamped r h))
      ≡ committing (word_setting m) r i h
  unfolding stored_where committing with_handler stored put
  commit_is before done same = λ d. record { cells = cells d; handlers = handlers d }
    where
      cells : (stored_where done h.copies (stamped r h) (with_handler r i before)).cells ≡ stored r h
      cells = fun_ext (λ c. rw (same c))

      handlers : put (put r.handlers i before) i (idle (word_setting m) (stamped r h)) ≡ put r.handlers i (idle (word_setting m) (stamped r h))
      handlers = fun_ext (λ j. by (eqb j i) (λ e. rw e) (λ e. rw e))

  -- With the handler settled where its block lies, the words hold that register.
  pub commit_holds : {n : ℕ} {done : ℕ → Bool} {rest words after : List ℕ} (before : Handler ℕ) → i < n
      → ((c : ℕ) → done c ≡ h.written_set c) → Holds m n (with_handler r i before) rest words
      → Stores m done h.copies (stamped r h) words after
      → Holds m n (committing (word_setting m) r i h) rest
      (splice (handler_start m i) (handler_long m) (pour_handler m (idle (word_setting m) (stamped r h))) after)
  commit_holds {n} {done} {rest} before inside same holds stores =
      rw (← commit_is before done same)
      (block_put (stores.holds n (with_handler r i before) rest holds) i (idle (word_setting m) (stamped r h)) inside)
