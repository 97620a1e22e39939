-- A read by the rules: what is shown and nothing changed, or the first read with its outcome and its handler.
use Rattle.std.specs.Prelude.{if◌then◌else◌}
use Prim.Native.Nat.{ℕ, max}
use native.Mathlib.Omega.{arith}
use mathlib.Core.Path.{◌≡◌, sym, ap, ap₂, ◌∙◌, fun_ext}
use mathlib.Core.Bool.{true, false, ◌||◌, or-true}
use mathlib.Core.List.{List}
use mathlib.Core.Option.{none, some}
use lib.Dec.{eqb, ltb}
use borrow.Author.Tests.{eqb-true, eqb-false, le-ltb, ltb-true, ltb-false}
use Rattle.rules.specs.steps.Codes.{read}
use Rattle.rules.specs.steps.Replies.{Content, torn, value, shows}
use Rattle.rules.specs.steps.Tables.{put}
use Rattle.rules.specs.steps.Register.{Setting, Cell, Handler, Register, with_handler}
use Rattle.rules.specs.steps.Checks.{first_hit}
use Rattle.rules.specs.steps.Figure.{joined, taken, version_shows, cell_shows, shown}
use Rattle.rules.specs.steps.Figure.{torn_cell, ended_with, unless_aborted, read_checks, first_read, reading, step}
use Rattle.rules.proofs.steps.Tables.{by, both_ways, SameFrom, lowest_none, put_here, put_other}
use Rattle.rules.proofs.steps.Searches.{lowest_same}
use Rattle.rules.proofs.steps.Steps.{taken_shows}
use Rattle.layout.specs.View.{word_setting, view}
use Rattle.layout.specs.WellFormed.{GoodBody}
use Rattle.layout.proofs.PourView.{pour_view}
use Rattle.block.specs.Blocks.{joined_with}
use Rattle.steps.specs.Takes.{Takes}

module _ {m n : ℕ} {body : List ℕ} (good : GoodBody m n body) where
  -- The handlers.
  abbrev handler : ℕ → Handler ℕ
  handler = (view m n body).handlers

  -- A read of a cell that is in either set takes what is shown and changes nothing.
  again_takes : {i x : ℕ} {content : Content ℕ} → (handler i).read_set x || (handler i).written_set x ≡ true → content ≡ shown (handler i) x
      → Takes m n body i (read x) 0 (shows content) body
  unfolding step reading
  again_takes either same = record {
    replied = ap shows same ∙ rw either;
    left = sym (pour_view good) ∙ rw either;
  }

  -- A cell that it wrote shows the copy,
  pub written_takes : {i x copy : ℕ} → (handler i).written_set x ≡ true → copy ≡ (handler i).copies x
      → Takes m n body i (read x) 0 (shows (value copy)) body
  unfolding shown
  written_takes written same = again_takes (rw written (simp or-true)) (rw written (ap value same))

  -- and one that it only read the version that it holds.
  pub held_takes : {i x number copy : ℕ} {content : Content ℕ} → (handler i).read_set x ≡ true → (handler i).written_set x ≡ false
      → content ≡ version_shows number copy → number ≡ (handler i).transaction x → copy ≡ (handler i).copies x
      → Takes m n body i (read x) 0 (shows content) body
  unfolding shown
  held_takes was_read unwritten same held copied = again_takes (rw was_read) (rw unwritten (same ∙ ap₂ version_shows held copied))

-- ── The first read ────────────────────────────────────────────────────

-- A cell that joins the read set is not torn itself: its number was just set. So the test may be asked before it joins.
torn_before : (S : Setting ℕ) (h : Handler ℕ) (x : ℕ) (c : Cell ℕ) → h.read_set x ≡ false → torn_cell S (joined h x c) c ≡ torn_cell S h c
unfolding torn_cell joined
torn_before S h x c unread = lowest_same S.cell_count _ _ (λ y _. by (eqb y x)
    (λ e. rw (eqb-true y x e, unread, put_here, put_here, le-ltb (c.numbers x) (c.numbers x) (omega arith)))
    (λ e. rw (put_other h.read_set x true y (eqb-false y x e), put_other h.transaction x (c.numbers x) y (eqb-false y x e))))

-- Where nothing is torn, a number of the read set is not below the cell's, and raising every number leaves it. So all numbers may be
-- raised, and then the cell joins at its own.
taken_is : (m : ℕ) (h : Handler ℕ) (x : ℕ) (c : Cell ℕ) → torn_cell (word_setting m) h c ≡ none → SameFrom m false h.read_set
    → taken (joined h x c) x c ≡ joined_with h x c.value c.numbers
unfolding torn_cell joined_with taken joined
taken_is m h x c whole beyond = λ d. record {
  phase = 1;
  read_set = put h.read_set x true;
  written_set = h.written_set;
  numbers = h.numbers;
  transaction = fun_ext (λ y. sym (each y)) d;
  copies = put h.copies x c.value;
}
  where
    raised : ℕ → ℕ
    raised y = max (h.transaction y) (c.numbers y)

    held : (y : ℕ) → h.read_set y ≡ true → raised y ≡ h.transaction y
    held y inside = by (ltb y m)
        (λ e. let kept = lowest_none m _ whole y (ltb-true y m e) in
        let least = ltb-false (h.transaction y) (c.numbers y) (rw inside at kept) in omega arith)
        (λ e. both_ways inside (beyond y (ltb-false y m e)))

    each : (y : ℕ) → put raised x (c.numbers x) y
        ≡ (if put h.read_set x true y then (put h.transaction x (c.numbers x) y)
        else (max (put h.transaction x (c.numbers x) y) (c.numbers y)))
    each y = by (eqb y x)
        (λ e. rw (eqb-true y x e, put_here, put_here, put_here))
        (λ e. rw (
          put_other raised x (c.numbers x) y (eqb-false y x e),
          put_other h.read_set x true y (eqb-false y x e),
          put_other h.transaction x (c.numbers x) y (eqb-false y x e),
        ) (by (h.read_set y) (λ q. rw q (held y q)) (λ q. rw q)))

module _ (m : ℕ) (r : Register ℕ) (i x v : ℕ) (unread : (r.handlers i).read_set x ≡ false) (unwritten : (r.handlers i).written_set x ≡ false) where
  -- The first read of a cell that is torn by cell y, the lowest such.
  pub first_read_torn : {y : ℕ} → torn_cell (word_setting m) (r.handlers i) (r.cells x) ≡ some y
      → step (word_setting m) r i (read x) v ≡ ended_with (word_setting m) (torn y) r i (r.handlers i)
  unfolding step reading first_read read_checks first_hit unless_aborted
  first_read_torn old = rw (unread, unwritten, torn_before (word_setting m) (r.handlers i) x (r.cells x) unread ∙ old)

  -- The first read of a cell that is not.
  pub first_read_taken : torn_cell (word_setting m) (r.handlers i) (r.cells x) ≡ none → SameFrom m false (r.handlers i).read_set
      → step (word_setting m) r i (read x) v ≡ record {
        outcome = shows (cell_shows x (r.cells x));
        after = with_handler r i (joined_with (r.handlers i) x (r.cells x).value (r.cells x).numbers);
      }
  unfolding step reading first_read read_checks first_hit unless_aborted
  first_read_taken whole beyond =
      rw (unread, unwritten, torn_before (word_setting m) (r.handlers i) x (r.cells x) unread ∙ whole)
      (ap₂ (λ content h. record { outcome = shows content; after = with_handler r i h })
      (taken_shows (r.handlers i) x (r.cells x) unwritten) (taken_is m (r.handlers i) x (r.cells x) whole beyond))
