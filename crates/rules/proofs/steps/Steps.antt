-- What a read and a try come to, by cases, and which tests of Figure.antt decide it; what is shown of a version, after a first read, and of a
-- stored cell.
use Prim.Native.Nat.{ℕ, ◌+◌}
use native.Mathlib.Omega.{arith}
use mathlib.Core.Path.{◌≡◌, refl, sym, subst}
use mathlib.Core.Bool.{true, false, ◌||◌}
use mathlib.Core.Option.{Option, none, some}
use borrow.Author.Tests.{eq-eqb, ne_eqb}
use Rattle.rules.specs.steps.Tables.{put}
use Rattle.rules.specs.steps.Replies.{torn, overtaken, spent, Content, unset, value, shows, committed, aborted}
use Rattle.rules.specs.steps.Register.{Setting, Cell, Handler, Register, with_handler}
use Rattle.rules.specs.steps.Checks.{first_hit}
use Rattle.rules.specs.steps.Figure.{Result, joined, taken, version_shows, cell_shows, shown, stamped, stored, torn_cell, overtaken_cell}
use Rattle.rules.specs.steps.Figure.{spent_cell, aborting, committing, unless_aborted, read_checks, try_checks, first_read, reading, trying}
use Rattle.rules.proofs.steps.Tables.{by, found, or_right}

module _ {W : Type 0} where
  -- A transaction after a first read of x, that is not torn.
  abbrev pub has_taken : Register W → Handler W → ℕ → Handler W
  has_taken r h x = taken (joined h x (r.cells x)) x (r.cells x)

  -- The cell by which a transaction's first read of x would be torn, if there is one.
  abbrev pub torn_at : Setting W → Register W → Handler W → ℕ → Option ℕ
  torn_at S r h x = torn_cell S (joined h x (r.cells x)) (r.cells x)

  -- The opening's version shows nothing,
  pub shows_nothing : (number : ℕ) (v : W) → number ≡ 0 → version_shows number v ≡ unset
  unfolding version_shows
  shows_nothing number v e = rw (eq-eqb number 0 e)

  -- and every other its value.
  pub shows_value : (number : ℕ) (v : W) → (number ≡ 0 → ⊥) → version_shows number v ≡ value v
  unfolding version_shows
  shows_value number v ne = rw (ne_eqb number 0 ne)

  -- What is shown of a cell that is read now, and that the transaction has not written, is what the cell shows.
  pub taken_shows : (h : Handler W) (x : ℕ) (c : Cell W) → h.written_set x ≡ false → shown (taken (joined h x c) x c) x ≡ cell_shows x c
  unfolding shown taken joined put
  taken_shows h x c unwritten = rw (unwritten, eq-eqb x x refl)

  -- A cell that is stored shows the value written: its number is above 0.
  pub stored_shows : (r : Register W) (h : Handler W) (x : ℕ) → h.written_set x ≡ true → cell_shows x (stored r h x) ≡ value (h.copies x)
  unfolding stored stamped
  stored_shows r h x written = rw written (rw written (shows_value ((r.cells x).numbers x + 1) (h.copies x) (omega arith)))

module _ {W : Type 0} (S : Setting W) (r : Register W) (i : ℕ) (h : Handler W) where
  -- What holds of a read of a cell that has a copy, of one that is torn and of one that is taken holds of the read.
  pub reading_cases : (Q : Result W → Type 0) (x : ℕ)
      → (h.read_set x || h.written_set x ≡ true → Q (record { outcome = shows (shown h x); after = r }))
      → (h.read_set x || h.written_set x ≡ false → (y : ℕ) → torn_at S r h x ≡ some y
      → Q (record { outcome = aborted (torn y); after = aborting S r i h }))
      → (h.read_set x || h.written_set x ≡ false → torn_at S r h x ≡ none
      → Q (record { outcome = shows (cell_shows x (r.cells x)); after = with_handler r i (has_taken r h x) }))
      → Q (reading S r i h x)
  unfolding reading first_read read_checks first_hit unless_aborted
  reading_cases Q x copied is_torn is_taken = by (h.read_set x || h.written_set x)
      (λ e. rw e (copied e))
      (λ e. rw e (found (torn_at S r h x)
      (λ y t. rw t (is_torn e y t))
      (λ t. rw t (subst answers (sym (taken_shows h x (r.cells x) (or_right (h.read_set x) (h.written_set x) e))) (is_taken e t)))))
    where
      answers : Content W → Type 0
      answers v = Q (record { outcome = shows v; after = with_handler r i (has_taken r h x) })

  -- What holds of a try that is overtaken, of one that is spent and of one that commits holds of the try.
  pub trying_cases : (Q : Result W → Type 0)
      → ((z : ℕ) → overtaken_cell S r h ≡ some z → Q (record { outcome = aborted (overtaken z); after = aborting S r i h }))
      → (overtaken_cell S r h ≡ none → (z : ℕ) → spent_cell S r h ≡ some z
      → Q (record { outcome = aborted (spent z); after = aborting S r i h }))
      → (overtaken_cell S r h ≡ none → spent_cell S r h ≡ none → Q (record { outcome = committed; after = committing S r i h }))
      → Q (trying S r i h)
  unfolding trying try_checks first_hit unless_aborted
  trying_cases Q is_stale is_full commits = found (overtaken_cell S r h)
      (λ z e. rw e (is_stale z e))
      (λ e. rw e (found (spent_cell S r h) (λ z k. rw k (is_full e z k)) (λ k. rw k (commits e k))))
