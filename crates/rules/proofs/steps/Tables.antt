-- Laws of tests, of what is lowest below a number of places, and of tables. What is said here of yes and no, of places and of
-- tables is cited by every other file of laws.
use Prim.Native.Nat.{ℕ, zero, suc, ◌≤◌, ◌<◌}
use native.Mathlib.Omega.{arith}
use mathlib.Core.Path.{◌≡◌, refl, sym, ap, ◌∙◌, fun_ext, subst}
use mathlib.Core.Bool.{Bool, true, false, ◌&&◌, ◌||◌, true≢false, false≢true}
use mathlib.Core.Option.{Option, none, some, some-injective, some-ne-none}
use lib.Dec.{eqb, leb}
use mathlib.Core.Logic.{◌↔◌}
use borrow.Author.Tests.{leb-true, le-leb, eqb-true, eqb-false, eq-eqb, ne_eqb}
use Rattle.rules.specs.steps.Tables.{put, or_else, lowest, LowestOf, some_below}

-- ── Tests ─────────────────────────────────────────────────────────────

-- A test holds or it does not.
pub by {ℓ} : {A : Type ℓ} (b : Bool) → (b ≡ true → A) → (b ≡ false → A) → A
by true f g = f refl
by false f g = g refl

-- A test that both holds and does not proves anything.
pub both_ways {ℓ} : {A : Type ℓ} {b : Bool} → b ≡ true → b ≡ false → A
both_ways p q = absurd (true≢false (sym p ∙ q))

-- Where two tests hold together the first holds,
pub and_left : (a b : Bool) → a && b ≡ true → a ≡ true
and_left true b e = refl
and_left false b e = e

-- and the second holds.
pub and_right : (a b : Bool) → a && b ≡ true → b ≡ true
and_right true b e = e
and_right false b e = absurd (false≢true e)

-- Tests that each hold, hold together.
pub and_both : (a b : Bool) → a ≡ true → b ≡ true → a && b ≡ true
and_both true b p q = q
and_both false b p q = p

-- Two tests hold together just when each holds.
pub and_iff : (a b : Bool) → (a && b ≡ true) ↔ ((a ≡ true) × (b ≡ true))
and_iff a b = (λ e. (and_left a b e, and_right a b e), λ h. and_both a b h.0 h.1)

-- The test of order answers the order.
pub leb_iff : (a b : ℕ) → (leb a b ≡ true) ↔ (a ≤ b)
leb_iff a b = (leb-true a b, le-leb a b)

-- Where neither of two tests holds the first does not,
pub or_left : (a b : Bool) → a || b ≡ false → a ≡ false
or_left true b e = e
or_left false b e = refl

-- and the second does not.
pub or_right : (a b : Bool) → a || b ≡ false → b ≡ false
or_right true b e = absurd (true≢false e)
or_right false b e = e

-- Where one of two tests holds, what follows from each of them follows.
pub either {ℓ} : {A : Type ℓ} (a b : Bool) → a || b ≡ true → (a ≡ true → A) → (b ≡ true → A) → A
either true b e f g = f refl
either false b e f g = g e

-- A test that implies the second of two adds nothing to them.
pub or_absorb : (a b c : Bool) → (c ≡ true → b ≡ true) → (a || b) || c ≡ a || b
or_absorb true b c f = refl
or_absorb false true c f = refl
or_absorb false false true f = sym (f refl)
or_absorb false false false f = refl

-- Of three tests the first two may change places.
pub or_swap : (a b c : Bool) → a || (b || c) ≡ b || (a || c)
or_swap true true c = refl
or_swap true false c = refl
or_swap false b c = refl

-- Tests that imply each other are the same.
pub same_test : (a b : Bool) → (a ≡ true → b ≡ true) → (b ≡ true → a ≡ true) → a ≡ b
same_test true b f g = sym (f refl)
same_test false true f g = g refl
same_test false false f g = refl

-- ── The lowest place ──────────────────────────────────────────────────

-- Something was found, or nothing was.
pub found {ℓ} : {A B : Type ℓ} (o : Option B) → ((b : B) → o ≡ some b → A) → (o ≡ none → A) → A
found none f g = g refl
found (some b) f g = f b refl

-- y is the lowest place below m that passes.
pub record Lowest (m : ℕ) (test : ℕ → Bool) (y : ℕ) : Type 0 where
  pub below : y < m
  pub passes : test y ≡ true
  pub first : (z : ℕ) → z < y → test z ≡ false

-- Where no lowest place is found, no place passes.
pub lowest_none : (m : ℕ) (test : ℕ → Bool) → lowest m test ≡ none → (z : ℕ) → z < m → test z ≡ false
unfolding lowest or_else
lowest_none zero test e z l = absurd (omega arith)
lowest_none (suc m) test e z l = found (lowest m test)
    (λ y f. absurd (some-ne-none y (rw f at e)))
    (λ f. by (test m)
    (λ q. absurd (some-ne-none m (rw (f, q) at e)))
    (λ q. by (eqb z m) (λ k. rw (eqb-true z m k) q) (λ k. lowest_none m test f z (omega (arith, eqb-false z m k)))))

-- The lowest place that is found is the lowest one that passes.
pub lowest_some : (m : ℕ) (test : ℕ → Bool) (y : ℕ) → lowest m test ≡ some y → Lowest m test y
unfolding lowest or_else
lowest_some zero test y e = absurd (some-ne-none y (sym e))
lowest_some (suc m) test y e = found (lowest m test)
    (λ k f. let q : Lowest m test y = lowest_some m test y (f ∙ (rw f at e)) in
    record { below = omega (arith, q.below); passes = q.passes; first = q.first })
    (λ f. by (test m)
    (λ q. let g : m ≡ y = some-injective m y (rw (f, q) at e) in
    record { below = omega arith; passes = rw (← g) q; first = λ z l. lowest_none m test f z (omega arith) })
    (λ q. absurd (some-ne-none y (sym (rw (f, q) at e)))))

-- The lowest place that passes is the one that is found.
pub lowest_is : (m : ℕ) (test : ℕ → Bool) (y : ℕ) → Lowest m test y → lowest m test ≡ some y
lowest_is m test y least = found (lowest m test)
    (λ z q. let other = lowest_some m test z q in
    let not_below : z < y → ⊥ = λ l. both_ways other.passes (least.first z l) in
    let not_above : y < z → ⊥ = λ l. both_ways least.passes (other.first y l) in
    let same : z ≡ y = omega (arith, not_below, not_above) in
    q ∙ ap some same)
    (λ q. both_ways least.passes (lowest_none m test q y least.below))

-- Where each place fails, none is found.
pub lowest_empty : (m : ℕ) (test : ℕ → Bool) → ((y : ℕ) → y < m → test y ≡ false) → lowest m test ≡ none
lowest_empty m test fails = found (lowest m test)
    (λ y q. let k = lowest_some m test y q in both_ways k.passes (fails y k.below)) (λ q. q)

-- There is one lowest place that meets a condition.
pub lowest_one : (Meets : ℕ → Type 0) {y z : ℕ} → LowestOf Meets y → LowestOf Meets z → y ≡ z
lowest_one Meets {y} {z} a b =
    let not_below : y < z → ⊥ = λ l. b.least y l a.meets in
    let not_above : z < y → ⊥ = λ l. a.least z l b.meets in
    omega (arith, not_below, not_above)

-- Where a test tells a condition that some place meets, there is a lowest one that does.
pub lowest_there : (test : ℕ → Bool) (Meets : ℕ → Type 0) → ((y : ℕ) → (test y ≡ true) ↔ Meets y)
    → (y : ℕ) → Meets y → (z : ℕ) × LowestOf Meets z
lowest_there test Meets tells y t = found (lowest (suc y) test)
    (λ z q. let k = lowest_some (suc y) test z q in
    (z, record { meets = (tells z).0 k.passes; least = λ w l u. both_ways ((tells w).1 u) (k.first w l) }))
    (λ q. both_ways ((tells y).1 t) (lowest_none (suc y) test q y (omega arith)))

-- A test of the places below m that tells a condition:
module _ (m : ℕ) (test : ℕ → Bool) (Meets : ℕ → Type 0) (tells : (y : ℕ) → ((y < m) × (test y ≡ true)) ↔ Meets y) where
  -- what is found is the lowest place that meets it,
  pub lowest_tells : (y : ℕ) → (lowest m test ≡ some y) ↔ LowestOf Meets y
  lowest_tells y = (to, from)
    where
      to : lowest m test ≡ some y → LowestOf Meets y
      to e =
          let q = lowest_some m test y e in
          record { meets = (tells y).0 (q.below, q.passes); least = λ z l t. both_ways ((tells z).1 t).1 (q.first z l) }

      from : LowestOf Meets y → lowest m test ≡ some y
      from k =
          let there = (tells y).1 k.meets in
          lowest_is m test y (record {
            below = there.0;
            passes = there.1;
            first = λ z l. by (test z) (λ t. absurd (k.least z l ((tells z).0 (omega (arith, there.0), t)))) (λ t. t);
          })

  -- and nothing is found exactly where none meets it.
  pub none_tells : (lowest m test ≡ none) ↔ ((y : ℕ) → Meets y → ⊥)
  none_tells = (
    λ e y k. let there = (tells y).1 k in both_ways there.1 (lowest_none m test e y there.0),
    λ h. lowest_empty m test (λ y l. by (test y) (λ t. absurd (h y ((tells y).0 (l, t)))) (λ t. t)),
  )

-- Some place passes: there is one.
pub some_true : (m : ℕ) (test : ℕ → Bool) → some_below m test ≡ true → (y : ℕ) × (y < m) × (test y ≡ true)
unfolding some_below
some_true m test e = found (lowest m test)
    (λ y q. let k = lowest_some m test y q in (y, k.below, k.passes))
    (λ q. absurd (false≢true (rw q at e)))

-- A place passes: some place does.
pub some_from : (m : ℕ) (test : ℕ → Bool) (y : ℕ) → y < m → test y ≡ true → some_below m test ≡ true
unfolding some_below
some_from m test y h e = found (lowest m test) (λ z q. rw q) (λ q. both_ways e (lowest_none m test q y h))

-- No place passes: this one does not.
pub some_false : (m : ℕ) (test : ℕ → Bool) → some_below m test ≡ false → (y : ℕ) → y < m → test y ≡ false
some_false m test e y h = by (test y) (λ q. both_ways (some_from m test y h q) e) (λ q. q)

-- Each place fails: no place passes.
pub some_none : (m : ℕ) (test : ℕ → Bool) → ((y : ℕ) → y < m → test y ≡ false) → some_below m test ≡ false
some_none m test h = by (some_below m test) (λ q. let k = some_true m test q in both_ways k.2 (h k.0 k.1)) (λ q. q)

-- ── Tables ────────────────────────────────────────────────────────────

-- What holds of the new entry, and of each other, holds of the table.
pub put_each {ℓ} : {A : Type ℓ} (Q : ℕ → A → Type 0) (f : ℕ → A) (i : ℕ) (a : A)
    → Q i a → ((j : ℕ) → (j ≡ i → ⊥) → Q j (f j)) → (j : ℕ) → Q j (put f i a j)
unfolding put
put_each Q f i a h g j = by (eqb j i)
    (λ e. rw e (subst (λ k. Q k a) (sym (eqb-true j i e)) h))
    (λ e. rw e (g j (eqb-false j i e)))

-- What holds of three new entries at one place, and of the three tables elsewhere, holds of the tables with the entries put in.
pub put_three {ℓ ℓ' ℓ''} : {A : Type ℓ} {B : Type ℓ'} {C : Type ℓ''} (Q : ℕ → A → B → C → Type 0)
    (f : ℕ → A) (g : ℕ → B) (h : ℕ → C) (i : ℕ) (a : A) (b : B) (c : C)
    → Q i a b c → ((j : ℕ) → (j ≡ i → ⊥) → Q j (f j) (g j) (h j))
    → (j : ℕ) → Q j (put f i a j) (put g i b j) (put h i c j)
unfolding put
put_three Q f g h i a b c new old j = by (eqb j i)
    (λ e. rw e (subst (λ k. Q k a b c) (sym (eqb-true j i e)) new))
    (λ e. rw e (old j (eqb-false j i e)))

-- The place of the new entry holds it,
pub put_here {ℓ} : {A : Type ℓ} (f : ℕ → A) (i : ℕ) (a : A) → put f i a i ≡ a
unfolding put
put_here f i a = rw (eq-eqb i i refl)

-- and every other place holds what it held.
pub put_other {ℓ} : {A : Type ℓ} (f : ℕ → A) (i : ℕ) (a : A) (j : ℕ) → (j ≡ i → ⊥) → put f i a j ≡ f j
unfolding put
put_other f i a j ne = rw (ne_eqb j i ne)

-- A table with an entry put where it stands already is the same table.
pub put_same {ℓ} : {A : Type ℓ} (f : ℕ → A) (i : ℕ) (a : A) → f i ≡ a → put f i a ≡ f
unfolding put
put_same f i a q = fun_ext (λ j. by (eqb j i) (λ e. rw e (sym (ap f (eqb-true j i e) ∙ q))) (λ e. rw e))

-- A table with an entry put into it, seen through a function, is the table seen so with the entry seen so put into it.
pub put_map {ℓ κ} : {A : Type ℓ} {B : Type κ} (g : A → B) (f : ℕ → A) (i : ℕ) (a : A) (j : ℕ)
    → g (put f i a j) ≡ put (λ k. g (f k)) i (g a) j
unfolding put
put_map g f i a j = by (eqb j i) (λ e. rw e) (λ e. rw e)

-- From place m on the table holds one and the same entry.
abbrev pub SameFrom {ℓ} : {A : Type ℓ} → ℕ → A → (ℕ → A) → Type ℓ
SameFrom m rest table = (y : ℕ) → m ≤ y → table y ≡ rest

-- An entry put below m is none of those beyond.
pub put_beyond {ℓ} : {A : Type ℓ} {m x : ℕ} {rest : A} {table : ℕ → A} (a : A)
    → x < m → SameFrom m rest table → SameFrom m rest (put table x a)
put_beyond {m = m} {x = x} {table = table} a inside beyond y l = put_other table x a y (omega arith) ∙ beyond y l
