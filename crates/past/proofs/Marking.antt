-- Laws of marks: what no mark and one mark more say, how sets of commits are added one after another, and which sets have with each
-- commit its past.
use Rattle.std.proofs.Common.{bit_or, ◌*◌, ◌%◌, ◌^◌, w64, ℕ, zero, suc, ◌-◌, ◌≤◌, ◌<◌, arith, sub-one, ◌≡◌, refl, sym, ap, ◌∙◌, Bool, true, false, ◌||◌}
use Rattle.std.proofs.Common.{List, eqb, eqb-true}
use Rattle.std.proofs.lemmas.Nat.Bits.{bit_at_set_same, bit_at_set_other}
use mathlib.Core.Path.{fun_ext}
use mathlib.Core.Bool.{or-true, or-false, or_assoc, or_comm}
use lib.Dec.{eqb-zero-suc, eqb-suc-suc}
use borrow.Author.Tests.{eqb-false}
use Rattle.rules.proofs.steps.Tables.{by, both_ways, either, or_absorb}
use Rattle.layout.specs.Bits.{has_bit}
use Rattle.layout.proofs.Bits.{no_bit_from}
use Rattle.past.specs.Marks.{marked, only, Adds, Closed}

-- ── Marks ─────────────────────────────────────────────────────────────

-- Marks 0 mark nothing.
pub marked_none : (j : ℕ) → marked 0 j ≡ false
unfolding marked
marked_none zero = refl
marked_none (suc k) = (no_bit_from 0 0).1 (omega arith) k (omega arith)

-- A commit's mark is the bit below its place.
pub marked_at : (marks place : ℕ) → 1 ≤ place → marked marks place ≡ has_bit marks (place - 1)
unfolding marked
marked_at marks zero h = absurd (omega arith)
marked_at marks (suc k) h = rw sub-one

-- ── What is added ─────────────────────────────────────────────────────

-- From no marks, what is added is what is marked.
pub adds_none : {included : ℕ → Bool} {after : ℕ} → Adds included 0 after → marked after ≡ included
adds_none adds = fun_ext (λ j. adds.each j ∙ rw (marked_none j))

-- Commits that are marked already add nothing.
pub adds_nothing : (included : ℕ → Bool) (marks : ℕ) → ((j : ℕ) → included j ≡ true → marked marks j ≡ true)
    → Adds included marks marks
adds_nothing included marks there = record { each = λ j. sym (or_absorb false (marked marks j) (included j) (there j)) }

-- One set is added, and then another.
pub adds_both : {first second : ℕ → Bool} {marks middle after : ℕ} (both : ℕ → Bool)
    → ((j : ℕ) → both j ≡ second j || first j) → Adds first marks middle → Adds second middle after → Adds both marks after
adds_both {first = first} {second = second} {marks = marks} both same one other = record {
  each = λ j. other.each j
      ∙ rw (one.each j, same j)
      (or_assoc (marked marks j) (first j) (second j) ∙ ap (λ b. marked marks j || b) (or_comm (first j) (second j)));
}

-- A word with one bit set has that one,
set_same : (marks k : ℕ) → k < 64 → has_bit (bit_or marks (1 * 2 ^ k % 2 ^ 64)) k ≡ true
unfolding has_bit
set_same marks k h = ap (λ (n : ℕ). eqb n 1) (bit_at_set_same w64 marks k h)

-- and the others as they were.
set_other : (marks k i : ℕ) → k < 64 → (i ≡ k → ⊥) → has_bit (bit_or marks (1 * 2 ^ k % 2 ^ 64)) i ≡ has_bit marks i
unfolding has_bit
set_other marks k i h apart = ap (λ (n : ℕ). eqb n 1) (bit_at_set_other w64 marks k h i apart)

-- One commit is added by one bit.
pub adds_one : (marks place : ℕ) → 1 ≤ place → place ≤ 64 → Adds (only place) marks (bit_or marks (1 * 2 ^ (place - 1) % 2 ^ 64))
unfolding marked
adds_one marks zero low high = absurd (omega arith)
adds_one marks (suc k) low high = rw sub-one (record { each = each })
  where
    each : (j : ℕ) → marked (bit_or marks (1 * 2 ^ k % 2 ^ 64)) j ≡ marked marks j || eqb j (suc k)
    each zero = sym (eqb-zero-suc k)
    each (suc i) = rw eqb-suc-suc (by (eqb i k)
        (λ e. rw (e, eqb-true i k e, set_same marks k (omega arith)) (sym (or-true (has_bit marks k))))
        (λ e. rw (e, set_other marks k i (omega arith) (eqb-false i k e)) (sym (or-false (has_bit marks i)))))

-- ── Sets that have with each commit its past ──────────────────────────

module _ (m : ℕ) (words : List ℕ) where
  -- Marks 0 are such a set.
  pub closed_none : Closed m words (marked 0)
  closed_none = record { holds = λ place j there past. both_ways there (marked_none place) }

  -- Marks that are one stay so where another one is added.
  pub closed_adds : {included : ℕ → Bool} {marks after : ℕ}
      → Closed m words (marked marks) → Closed m words included → Adds included marks after → Closed m words (marked after)
  closed_adds {included = included} {marks = marks} old new adds = record {
    holds = λ place j there past. adds.each j
        ∙ either (marked marks place) (included place) (sym (adds.each place) ∙ there)
        (λ e. rw (old.holds place j e past))
        (λ e. rw (new.holds place j e past) (or-true (marked marks j)));
  }
