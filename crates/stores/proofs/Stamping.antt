-- A row of words as a loop over the cells of a set changes it: the words of the cells that are done are those of a table, and the others as
-- before. So the numbers of a set's cells are raised.
use Rattle.std.specs.Prelude.{if◌then◌else◌}
use Prim.Native.Nat.{ℕ, ◌+◌, ◌*◌, ◌≤◌, ◌<◌}
use mathlib.Core.Path.{◌≡◌, refl, ◌∙◌, subst}
use mathlib.Core.Bool.{Bool, true, false}
use mathlib.Core.List.{List}
use native.Mathlib.Omega.{arith}
use lib.Dec.{eqb}
use lib.ListN.{length, get_or, set, length-set}
use lib.Seq.{get_or-set_same, get_or-set_other}
use borrow.Author.Tests.{eqb-true, eqb-false}
use Rattle.rules.specs.steps.Tables.{put}
use Rattle.rules.proofs.steps.Tables.{by}
use Rattle.layout.specs.Bits.{has_bit}
use Rattle.layout.specs.Places.{cell_long, own_at}
use Rattle.layout.proofs.Places.{cell_ends}
use Rattle.words.specs.Rows.{Changed}
use Rattle.words.specs.Sets.{Lowest, Without}
use Rattle.stores.specs.Stores.{Behind, stamped_in}
use Rattle.stores.proofs.Taken.{taken, LeftOf, taken_none, taken_all, left_all, cell_in, cell_low, left_less, taken_more}

-- The table where a place is done, and elsewhere the words as they were.
abbrev pub done_in : (ℕ → Bool) → (ℕ → ℕ) → List ℕ → ℕ → ℕ → ℕ
done_in done table words from y = if done y then (table y) else (get_or words (from + y) 0)

module _ (from count : ℕ) (table : ℕ → ℕ) (words : List ℕ) where
  -- No place is done yet.
  pub done_none : from + count ≤ length words → Changed from count (done_in (λ y. false) table words from) words words
  done_none fits = record {
    untouched = record { fits = fits; size = refl; below = λ place h. refl; above = λ place h. refl };
    inside = λ y h. refl;
  }

  -- One more place is done.
  pub done_more : (done : ℕ → Bool) (c v : ℕ) (after : List ℕ) → c < count → v ≡ table c
      → Changed from count (done_in done table words from) words after
      → Changed from count (done_in (put done c true) table words from) words (set after (from + c) v)
  unfolding put
  done_more done c v after low same changed = record {
    untouched = record {
      fits = changed.untouched.fits;
      size = length-set after (from + c) v ∙ changed.untouched.size;
      below = λ place h. other place (omega arith) ∙ changed.untouched.below place h;
      above = λ place h. other place (omega arith) ∙ changed.untouched.above place h;
    };
    inside = λ y h. by (eqb y c)
        (λ e. rw (e, eqb-true y c e) (here ∙ same))
        (λ e. rw e (other (from + y) (omega (arith, eqb-false y c e)) ∙ changed.inside y h));
  }
    where
      here : get_or (set after (from + c) v) (from + c) 0 ≡ v
      here = get_or-set_same after (from + c) v 0 (omega (arith, changed.untouched.size, changed.untouched.fits))

      other : (place : ℕ) → (place ≡ from + c → ⊥) → get_or (set after (from + c) v) place 0 ≡ get_or after place 0
      other place ne = get_or-set_other after (from + c) place v 0 ne

-- Some cells of the written set are left, and of the others the numbers in the row held are raised.
pub record Stamps (m written left held : ℕ) (words after : List ℕ) : Type 0 where
  pub leaves : LeftOf written left
  pub changed : Changed held m (done_in (taken written left) (stamped_in m written words held) words held) words after

-- A cell's own number lies among the cells.
pub own_among : (m c : ℕ) → c < m → own_at m c < m * cell_long m
own_among m c h = omega (arith, cell_ends m c h)

module _ {m written held : ℕ} {words : List ℕ} (behind : Behind m written held words) where
  -- No number is raised yet.
  pub stamps_none : Stamps m written written held words words
  stamps_none = record {
    leaves = left_all written;
    changed = rw (taken_none written) (done_none held m (stamped_in m written words held) words behind.fits);
  }

  module _ {left c own : ℕ} {after : List ℕ} (stamps : Stamps m written left held words after) (lowest : Lowest left c) (place : own ≡ own_at m c) where
    -- The cell's own number is as it was.
    pub own_kept : get_or after own 0 ≡ get_or words (own_at m c) 0
    own_kept =
        let low = own_among m c (cell_low stamps.leaves lowest behind) in
        rw place (stamps.changed.untouched.below (own_at m c) (omega (arith, low, behind.cells)))

    -- The lowest cell's number is raised besides.
    pub stamps_more : {rest : ℕ} → Without left c rest → Stamps m written rest held words (set after (held + c) (get_or after own 0 + 1))
    stamps_more without = record {
      leaves = left_less stamps.leaves lowest without;
      changed = rw (taken_more stamps.leaves lowest without)
          (done_more held m (stamped_in m written words held) words (taken written left) c _ after
          (cell_low stamps.leaves lowest behind) (rw (own_kept, cell_in stamps.leaves lowest)) stamps.changed);
    }

-- When none is left, all numbers of the set are raised.
pub stamps_all : {m written left held : ℕ} {words after : List ℕ} → left ≡ 0 → Stamps m written left held words after
    → Changed held m (stamped_in m written words held) words after
stamps_all {m} {written} {left} {held} {words} {after} none stamps = record {
  untouched = changed.untouched;
  inside = λ y h. changed.inside y h ∙ by (has_bit written y) (λ e. rw e) (λ e. rw e);
}
  where
    raised : ℕ → ℕ
    raised = stamped_in m written words held

    changed : Changed held m (done_in (has_bit written) raised words held) words after
    changed = subst (λ done. Changed held m (done_in done raised words held) words after) (taken_all written left none) stamps.changed
