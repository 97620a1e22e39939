-- Searches over a range of numbers, in the rules' words: whether some number passes a test, and the lowest one that does.
use Rattle.std.proofs.Common.{◌≡◌, ℕ, ◌+◌, ◌≤◌, ◌<◌, Bool, true, false, MatchBool, Option, None, Some, MatchOption, List, length, get_or, refl, sym, ap}
use Rattle.std.proofs.Common.{◌∙◌, arith}
use Rattle.std.specs.Borrow.{Bor}
use Rattle.std.specs.Fn.{Called, CalledAt}
use Rattle.std.specs.Iterator.{ChecksAny, FindsItem}
use Rattle.std.specs.List.{HoldsAt, AllWithin, range_with_len}
use Rattle.std.specs.declared.ops.Range.{Range}
use Rattle.std.proofs.iter.Yields.{nat_range_steps}
use Rattle.std.proofs.lemmas.Iterator.{YieldsList-from_range, cases_from_any, first_from_Range}
use Rattle.std.proofs.lemmas.List.FromFn.{length-range_with_len, get_or-range_with_len}
use denote.Param.Members.{Mut}
use Rattle.rules.specs.steps.Tables.{lowest, some_below}
use Rattle.rules.proofs.steps.Tables.{lowest_is, lowest_empty, some_from, some_none}
use Rattle.words.specs.Sets.{found_is}

module _ (test : ℕ → Bool) {F : Type 0} where
  -- Some number from 1 up to a count passes just where some place below it does for the number behind it.
  pub any_told : {g : Mut F (ℕ × Unit {0}) Bool} (u : Range ℕ) (f : F) (r : Bool) (count : ℕ)
      → ((x : ℕ) (q : F) → Called g f (x, tt) true q → test x ≡ true) → ((x : ℕ) (q : F) → Called g f (x, tt) false q → (q ≡ f) × (test x ≡ false))
      → ChecksAny nat_range_steps g (record { start = 1; end = count + 1 }) f r u → r ≡ some_below count (λ k. test (k + 1))
  any_told u f r count passes fails ran = by r
      (cases_from_any u f r (λ x. test x ≡ true) (λ x. test x ≡ false) ran (YieldsList-from_range 1 (count + 1) count refl (omega arith)) passes fails)
    where
      all : List ℕ
      all = range_with_len 1 count

      each : (k : ℕ) → k < count → get_or all k 0 ≡ k + 1
      each k inside = omega (arith, get_or-range_with_len 1 count k 0 inside)

      by : (b : Bool) → MatchBool b ((k : ℕ) × (k < length all) × HoldsAt (λ x. test x ≡ true) all k) (AllWithin (λ x. test x ≡ false) all 0 (length all))
          → b ≡ some_below count (λ k. test (k + 1))
      by true (k, below, holds) = let inside : k < count = omega (arith, length-range_with_len 1 count) in
          sym (some_from count _ k inside (ap test (sym (each k inside)) ∙ holds 0))
      by false none = sym (some_none count _ (λ k inside.
          let below : k < length all = omega (arith, length-range_with_len 1 count) in ap test (sym (each k inside)) ∙ none k 0 (omega arith) below))

  -- The lowest number below m that passes is found, if there is one.
  pub first_told : {g : Mut F (Bor ℕ × Unit {0}) Bool} (u : Range ℕ) (f : F) (r : Option ℕ) (m : ℕ)
      → ((x : ℕ) (q : F) → CalledAt g f x true q → x < m → test x ≡ true)
      → ((x : ℕ) (q : F) → CalledAt g f x false q → (q ≡ f) × (x < m → test x ≡ false))
      → FindsItem nat_range_steps g (record { start = 0; end = m }) f r u → found_is r ≡ lowest m test
  first_told u f r m passes fails ran =
      by r (first_from_Range (record { start = 0; end = m }) u f r (λ x. x < m → test x ≡ true) (λ x. x < m → test x ≡ false) ran passes fails)
    where
      by : (o : Option ℕ) → MatchOption o ((k : ℕ) → 0 ≤ k → k < m → k < m → test k ≡ false)
          (λ i. (0 ≤ i) × (i < m) × (i < m → test i ≡ true) × ((k : ℕ) → 0 ≤ k → k < i → k < m → test k ≡ false)) → found_is o ≡ lowest m test
      by None none = sym (lowest_empty m test (λ k inside. none k (omega arith) inside inside))
      by (Some i) (low, inside, holds, before) =
          sym (lowest_is m test i (record { below = inside; passes = holds inside; first = λ k less. before k (omega arith) less (omega arith) }))
