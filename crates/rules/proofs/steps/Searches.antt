-- Laws of what is looked for below a number of places: what a loop that looks for the first place that passes a test answers, and
-- when two searches answer the same.
use Prim.Native.Nat.{ℕ, zero, suc, ◌+◌, ◌≤◌, ◌<◌}
use native.Mathlib.Omega.{arith}
use mathlib.Core.Path.{◌≡◌, refl, sym, ap, ap₂, ◌∙◌}
use mathlib.Core.Bool.{Bool, true, false, ◌||◌, or-true}
use mathlib.Core.Option.{Option, none, some}
use lib.Dec.{eqb}
use borrow.Author.Count.{below_more}
use borrow.Author.Tests.{eqb-true, eqb-false}
use Rattle.rules.specs.steps.Tables.{or_else, lowest, is_found, some_below}
use Rattle.rules.proofs.steps.Tables.{by, both_ways, either, same_test, lowest_is, lowest_empty, some_true, some_from, some_none}

-- No place below y passes the test.
abbrev pub NoneBelow : (ℕ → Bool) → ℕ → Type 0
NoneBelow test y = (z : ℕ) → z < y → test z ≡ false

-- The search goes on past a place that fails.
pub search_goes : {test : ℕ → Bool} {y : ℕ} {found : Bool} → NoneBelow test y → found ≡ test y → found ≡ false → NoneBelow test (y + 1)
search_goes before tested fails = below_more _ _ before (sym tested ∙ fails)

-- A search that names the place where it ends,
module _ (m : ℕ) (test : ℕ → Bool) {answer : Option ℕ} (asked : answer ≡ lowest m test) where
  -- names the first place that passes,
  pub search_names : (y : ℕ) {found : Bool} → NoneBelow test y → y < m → found ≡ test y → found ≡ true → some y ≡ answer
  search_names y before inside tested passes =
      sym (asked ∙ lowest_is m test y (record { below = inside; passes = sym tested ∙ passes; first = before }))

  -- and none behind the last.
  pub search_ends : {y : ℕ} → NoneBelow test y → m ≤ y → none ≡ answer
  search_ends fails all = sym (asked ∙ lowest_empty m test (λ z h. fails z (omega arith)))

-- A search that only tells whether there is one.
module _ (m : ℕ) (test : ℕ → Bool) {answer : Bool} (asked : answer ≡ some_below m test) where
  -- The search ends at a place that passes.
  pub search_hits : (y : ℕ) {found : Bool} → y < m → found ≡ test y → found ≡ true → true ≡ answer
  search_hits y inside tested passes = sym (asked ∙ some_from m test y inside (sym tested ∙ passes))

  -- The search ends behind the last place.
  pub search_misses : {y : ℕ} → NoneBelow test y → m ≤ y → false ≡ answer
  search_misses fails all = sym (asked ∙ some_none m test (λ z h. fails z (omega arith)))

-- Where tests agree below m, the same place is found.
pub lowest_same : (m : ℕ) (test other : ℕ → Bool) → ((y : ℕ) → y < m → test y ≡ other y) → lowest m test ≡ lowest m other
unfolding lowest
lowest_same zero test other same = refl
lowest_same (suc m) test other same =
    ap₂ (λ before passes. or_else before passes m) (lowest_same m test other (λ y h. same y (omega arith))) (same m (omega arith))

-- Where all places but one fail, that one decides.
pub some_only : (m : ℕ) (test : ℕ → Bool) (x : ℕ) → x < m → ((y : ℕ) → (y ≡ x → ⊥) → test y ≡ false) → some_below m test ≡ test x
some_only m test x inside others = by (test x)
    (λ e. some_from m test x inside e ∙ sym e)
    (λ e. some_none m test (λ y _. by (eqb y x) (λ q. ap test (eqb-true y x q) ∙ e) (λ q. others y (eqb-false y x q))) ∙ sym e)

-- A place is found where the next one passes or one was found before.
found_next : (before : Option ℕ) (passes : Bool) (place : ℕ) → is_found (or_else before passes place) ≡ passes || is_found before
unfolding or_else
found_next none true place = refl
found_next none false place = refl
found_next (some y) true place = refl
found_next (some y) false place = refl

-- One place more passes, or some place before it.
pub some_next : (m : ℕ) (test : ℕ → Bool) → some_below (suc m) test ≡ test m || some_below m test
unfolding some_below lowest
some_next m test = found_next (lowest m test) (test m) m

-- Where a test is another at one place, which failed before, some place passes it just where that one does or some place did before.
pub some_more : (m : ℕ) (test other : ℕ → Bool) (x : ℕ) → x < m → test x ≡ false
    → ((y : ℕ) → (y ≡ x → ⊥) → other y ≡ test y) → other x || some_below m test ≡ some_below m other
some_more m test other x inside failed others = same_test (other x || some_below m test) (some_below m other) to from
  where
    to : other x || some_below m test ≡ true → some_below m other ≡ true
    to e = either (other x) (some_below m test) e (some_from m other x inside)
        (λ q. let place = some_true m test q in
        let apart : place.0 ≡ x → ⊥ = λ same. both_ways (ap test (sym same) ∙ place.2) failed in
        some_from m other place.0 place.1 (others place.0 apart ∙ place.2))

    from : some_below m other ≡ true → other x || some_below m test ≡ true
    from e =
        let place = some_true m other e in
        by (eqb place.0 x)
        (λ q. ap (λ b. b || some_below m test) (ap other (sym (eqb-true place.0 x q)) ∙ place.2))
        (λ q. ap (λ b. other x || b) (some_from m test place.0 place.1 (sym (others place.0 (eqb-false place.0 x q)) ∙ place.2))
        ∙ or-true (other x))
