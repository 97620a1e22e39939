-- The search for the last of the first so many commits that passes a test, from the latest one back.
use Rattle.std.proofs.Common.{◌≡◌, ℕ, zero, suc, ◌+◌, ◌-◌, ◌≤◌, Bool, true, false, List, [], ◌∷◌, Option, None, Some, MatchOption, unwrap_or, Bor}
use Rattle.std.proofs.Common.{sym, ap, ◌∙◌, subst, arith, add-one, sub-one}
use Rattle.std.specs.Bool.{⊤}
use Rattle.std.specs.Fn.{CalledAt}
use Rattle.std.specs.Iterator.{Yields, FindsItem}
use Rattle.std.specs.List.{FoldsTo}
use Rattle.std.specs.declared.ops.Range.{Range}
use Rattle.std.proofs.iter.runs.Sources.{nat_range_steps_back}
use denote.Param.Members.{Mut}

-- The last one is 0 among none, the next one where that passes, and else the last of those before.
module _ (test : ℕ → Bool) (last : ℕ → ℕ) (none : last 0 ≡ 0) (newest : (k : ℕ) → test (k + 1) ≡ true → last (k + 1) ≡ k + 1)
    (older : (k : ℕ) → test (k + 1) ≡ false → last (k + 1) ≡ last k) where
  -- A place that passes is the last one up to itself,
  latest : (place : ℕ) → 1 ≤ place → test place ≡ true → place ≡ last place
  latest zero h passes = absurd (omega arith)
  latest (suc k) h passes = sym (rw add-one at (newest k (rw add-one passes)))

  -- and one that fails is passed over.
  passed_over : (place : ℕ) → 1 ≤ place → test place ≡ false → last (place - 1) ≡ last place
  passed_over zero h fails = absurd (omega arith)
  passed_over (suc k) h fails = rw sub-one (sym (rw add-one at (older k (rw add-one fails))))

  module _ {F : Type 0} {g : Mut F (Bor ℕ × Unit {0}) Bool} (f : F)
      (tells : (place : ℕ) (b : Bool) (q : F) → CalledAt g f place b q → b ≡ test place)
      (keeps : (place : ℕ) (b : Bool) (q : F) → CalledAt g f place b q → q ≡ f) where
    -- Whatever was passed before, the place at which the search ends is the last one.
    found : (passed : List ℕ) (s t u : Range ℕ) (q : F) (r : Option ℕ) (count : ℕ) → s.start ≡ 1 → s.end ≡ count + 1
        → Yields nat_range_steps_back s passed t → nat_range_steps_back t r u
        → FoldsTo (λ p x q. CalledAt g p x false q) f passed q → MatchOption r ⊤ (λ x. (h : F) × CalledAt g q x true h) → unwrap_or r 0 ≡ last count
    found [] s t u q None count from to goes stops folds end =
        let empty : 0 ≡ count = omega (arith, ap (λ (z : Range ℕ). z.end - z.start) goes, stops.1.0) in sym none ∙ ap last empty
    found [] s t u q (Some x) count from to goes stops folds end =
        let named : x ≡ count = omega (arith, ap (λ (z : Range ℕ). z.end) goes, stops.1) in
        let passes = tells x true end.0 (subst (λ p. CalledAt g p x true end.0) (sym folds) end.1) in
        latest x (omega (arith, ap (λ (z : Range ℕ). z.start) goes, stops.1)) (sym passes) ∙ ap last named
    found (x ∷ passed) s t u q r count from to goes stops folds end =
        let (next, step, more) = goes in
        let (p, call, rest) = folds in
        let named : x ≡ count = omega (arith, step.1) in
        found passed next t u q r (x - 1) (step.0 ∙ from) (omega (arith, step.1)) more stops
        (subst (λ k. FoldsTo (λ p x q. CalledAt g p x false q) k passed q) (keeps x false p call) rest) end
        ∙ passed_over x (omega (arith, step.1)) (sym (tells x false p call)) ∙ ap last named

    -- The first place that passes, from the back, is the last one.
    pub last_found : (s u : Range ℕ) (r : Option ℕ) (count : ℕ) → s.start ≡ 1 → s.end ≡ count + 1 → FindsItem nat_range_steps_back g s f r u
        → unwrap_or r 0 ≡ last count
    last_found s u r count from to ran = let (passed, q, (t, goes, stops), folds, end) = ran in found passed s t u q r count from to goes stops folds end
