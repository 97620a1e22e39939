-- How rows change, one word after another: what a loop that stores has done so far, and that it is done.
use Rattle.std.proofs.Common.{◌≡◌, ◌+◌, ◌-◌, ◌≤◌, ◌<◌, refl, sym, ap, ◌∙◌, subst, ℕ, zero, suc, List, ◌++◌, length, get_or, set, take, drop, ltb, arith}
use Rattle.std.proofs.Common.{replicate}
use mathlib.Core.Path.{fun_ext}
use Rattle.std.proofs.Math.Seq.{get_or-set_same, get_or-set_other}
use Rattle.std.proofs.Math.ListN.{length-set}
use Rattle.std.proofs.lemmas.List.{length-append, length-drop, length-take-le, get_or_append_left, get_or-append_right, get_or-take, get_or-drop}
use borrow.Author.Count.{below_more}
use borrow.Author.Tests.{ltb-true, ltb-false}
use Rattle.rules.proofs.steps.Tables.{by, SameFrom}
use Rattle.words.specs.Rows.{Changed, RowOf}

module _ (from : ℕ) (table : ℕ → ℕ) (words : List ℕ) where
  -- No word is changed yet.
  pub changed_none : from ≤ length words → Changed from 0 table words words
  changed_none fits = record {
    untouched = record { fits = omega arith; size = refl; below = λ place h. refl; above = λ place h. refl };
    inside = λ y h. absurd (omega arith);
  }

  -- One more word is changed.
  pub changed_more : (count : ℕ) (after : List ℕ) (v : ℕ) → Changed from count table words after → from + count < length words
      → v ≡ table count → Changed from (count + 1) table words (set after (from + count) v)
  changed_more count after v changed fits e = record {
    untouched = record {
      fits = omega arith;
      size = length-set after (from + count) v ∙ changed.untouched.size;
      below = λ place h. other place (omega arith) ∙ changed.untouched.below place h;
      above = λ place h. other place (omega arith) ∙ changed.untouched.above place (omega arith);
    };
    inside = below_more _ count
        (λ y h. other (from + y) (omega arith) ∙ changed.inside y h)
        (get_or-set_same after (from + count) v 0 (omega (arith, changed.untouched.size)) ∙ e);
  }
    where
      other : (place : ℕ) → (place ≡ from + count → ⊥) → get_or (set after (from + count) v) place 0 ≡ get_or after place 0
      other place ne = get_or-set_other after (from + count) place v 0 ne

  -- As many words as there were to change are changed.
  pub changed_all : {count all : ℕ} {after : List ℕ} → Changed from count table words after → count ≤ all → all ≤ count
      → Changed from all table words after
  changed_all {count} {all} {after} changed most least =
      subst (λ k. Changed from k table words after) (let same : count ≡ all = omega arith in same) changed

-- What is changed from a place that was computed is changed from that place.
pub changed_at : {from place count : ℕ} {table : ℕ → ℕ} {words after : List ℕ} → from ≡ place → Changed from count table words after
    → Changed place count table words after
changed_at {count = count} {table = table} {words = words} {after = after} same = subst (λ k. Changed k count table words after) same

-- What is changed to one table is changed to any that is the same there.
pub changed_as : {from count : ℕ} {table : ℕ → ℕ} {words after : List ℕ} (other : ℕ → ℕ) → Changed from count table words after
    → ((y : ℕ) → y < count → table y ≡ other y) → Changed from count other words after
changed_as other changed same = record { untouched = changed.untouched; inside = λ y h. changed.inside y h ∙ same y h }

-- A word of a row of zeros.
zeros_at : (long y : ℕ) → ◌≡◌ {A = ℕ} (get_or (replicate long 0) y 0) 0
zeros_at zero y = refl
zeros_at (suc long) zero = refl
zeros_at (suc long) (suc y) = zeros_at long y

-- A row of 32 zeros, with a part of the words laid over its front, is the row of the part's table.
pub row_copied : (from : ℕ) {count : ℕ} (words : List ℕ) {part : List ℕ} → part ≡ take count (drop from words) → from + count ≤ length words → count ≤ 32
    → RowOf count (λ y. get_or words (from + y) 0) (part ++ drop count (replicate 32 0))
row_copied from {count} words {part} copied fits few = record {
  size = length-append part _ ∙ omega (arith, long, length-drop {A = ℕ} count (replicate 32 0));
  inside = λ y h. get_or_append_left part _ 0 y (omega (arith, long)) ∙ ap (λ p. get_or p y 0) copied
      ∙ get_or-take count (drop from words) y 0 h ∙ get_or-drop from words y 0;
  beyond = λ y h. get_or-append_right part _ _ y 0 long h ∙ get_or-drop count (replicate 32 0) (y - count) 0 ∙ zeros_at 32 (count + (y - count));
}
  where
    long : length part ≡ count
    long = ap length copied ∙ length-take-le count (drop from words) (omega (arith, length-drop from words))

-- A row stands for its table, if that is 0 from the count on.
pub row_is : {count : ℕ} {table : ℕ → ℕ} {row : List ℕ} → RowOf count table row → SameFrom count 0 table → (λ y. get_or row y 0) ≡ table
row_is {count} of beyond = fun_ext (λ y. by (ltb y count)
    (λ e. of.inside y (ltb-true y count e))
    (λ e. of.beyond y (ltb-false y count e) ∙ sym (beyond y (ltb-false y count e))))
