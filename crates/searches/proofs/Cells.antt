-- What a search finds that asks the cells of a set one after another, the lowest first, until one passes or none is left.
use Rattle.std.proofs.Common.{◌≡◌, ◌+◌, ◌<◌, ℕ, refl, sym, ap, ◌∙◌, Bool, true, false, not, ◌&&◌, Option, None, Some, eqb, ltb, arith, length, List, get_or}
use mathlib.Core.Bool.{and-false}
use mathlib.Core.Option.{none, some}
use borrow.Author.Tests.{eqb-true, ltb-true, ltb-false, lt-ltb, le-ltb}
use Rattle.std.specs.Option.{option_map_or}
use Rattle.rules.specs.steps.Tables.{lowest}
use Rattle.rules.proofs.steps.Tables.{by, both_ways, and_left, and_both, lowest_is, lowest_empty}
use Rattle.layout.specs.Bits.{has_bit, mask}
use Rattle.layout.specs.Places.{own_at}
use Rattle.layout.specs.WellFormed.{NoBitFrom}
use Rattle.layout.proofs.Bits.{no_bit_from, has_mask, mask_small}
use Rattle.layout.proofs.Places.{cell_ends}
use Rattle.words.specs.Sets.{found_is, Lowest, Without}
use Rattle.searches.specs.Searches.{Among, lower, FirstOf}

-- The cells that are left are in the set, and each cell of the set that is not left failed.
pub record Searched (set : ℕ) (Passed : ℕ → Bool → Type 0) (left : ℕ) : Type 0 where
  pub part : (y : ℕ) → has_bit left y ≡ true → has_bit set y ≡ true
  pub failed : (y : ℕ) → has_bit set y ≡ true → has_bit left y ≡ false → Passed y false

-- What was found is not nothing.
none_is : {y : ℕ} → ◌≡◌ {A = Option ℕ} None (Some y) → ⊥
none_is e = let z : ◌≡◌ {A = ℕ} 0 1 = ap (λ found. option_map_or (λ _. 1) found 0) e in omega arith

-- And it is one cell.
some_is : {y z : ℕ} → ◌≡◌ {A = Option ℕ} (Some y) (Some z) → y ≡ z
some_is {y} e = ap (λ found. option_map_or (λ w. w) found y) e

module _ {set : ℕ} {Passed : ℕ → Bool → Type 0} where
  -- At first all cells are left.
  pub search_begins : {left : ℕ} → left ≡ set → Searched set Passed left
  search_begins all = rw all (record { part = λ y e. e; failed = λ y there gone. both_ways there gone })

  module _ {left : ℕ} (searched : Searched set Passed left) where
    -- In the end none is left: each cell of the set failed.
    pub search_ends : left ≡ 0 → FirstOf set Passed None
    search_ends empty = record {
      none = λ is z there. searched.failed z there (rw empty ((no_bit_from 0 0).1 (omega arith) z (omega arith)));
      one = λ y is. absurd (none_is is);
    }

    module _ {y : ℕ} (least : Lowest left y) where
      -- The lowest that is left passes: it is the first of the set that does.
      pub search_stops : Passed y true → FirstOf set Passed (Some y)
      search_stops passes = record {
        none = λ is. absurd (none_is (sym is));
        one = λ z is. rw (sym (some_is is)) (searched.part y least.inside, passes, λ w below there. searched.failed w there (least.first w below));
      }

      -- It fails: the search goes on without it.
      pub search_goes : {rest : ℕ} → Without left y rest → Passed y false → Searched set Passed rest
      search_goes {rest} without fails = record {
        part = λ z e. searched.part z (and_left _ _ (sym (without.others z) ∙ e));
        failed = λ z there gone. by (eqb z y)
            (λ same. rw (eqb-true z y same) fails)
            (λ apart. searched.failed z there (and_true_left (sym (without.others z) ∙ gone) apart));
      }
        where
          and_true_left : {a b : Bool} → a && not b ≡ false → b ≡ false → a ≡ false
          and_true_left {a} {b} e apart = by a (λ t. both_ways (and_both _ _ t (ap not apart)) e) (λ f. f)

-- A set of some of the m cells, in a body that has them.
module _ {m set : ℕ} {body : List ℕ} (among : Among m set body) (y : ℕ) (there : has_bit set y ≡ true) where
  -- Each is one of the m cells,
  pub cell_inside : y < m
  cell_inside = by (ltb y m) (ltb-true y m) (λ e. both_ways there (among.below y (ltb-false y m e)))

  -- and its own number stands in the body.
  pub own_inside : own_at m y < length body
  own_inside = omega (arith, cell_inside, cell_ends m y cell_inside, among.cells)

-- What is asked of a cell is a test: it passed, or failed, as the test says.
abbrev pub tested : (ℕ → Bool) → ℕ → Bool → Type 0
tested test y b = b ≡ test y

-- A cell that failed, if it is in the set, is none that is in the set and passes.
fails : (set : ℕ) (test : ℕ → Bool) (z : ℕ) → (has_bit set z ≡ true → tested test z false) → has_bit set z && test z ≡ false
fails set test z failed = by (has_bit set z) (λ there. rw (there, sym (failed there)) refl) (λ gone. rw gone refl)

-- The cells of a set of some of the m cells, from cell y on.
abbrev from_on : ℕ → ℕ → ℕ → ℕ
from_on m set y = mask m (λ z. has_bit set z && not (ltb z y))

-- They are in it, and no other.
from_on_has : (m set y z : ℕ) → NoBitFrom m set → has_bit (from_on m set y) z ≡ has_bit set z && not (ltb z y)
from_on_has m set y z within = by (ltb z m)
    (λ e. has_mask m (λ k. has_bit set k && not (ltb k y)) z (ltb-true z m e))
    (λ e. (no_bit_from m (from_on m set y)).1 (mask_small m (λ k. has_bit set k && not (ltb k y))) z (ltb-false z m e)
    ∙ sym (ap (λ b. b && not (ltb z y)) (within z (ltb-false z m e))))

-- In the end none is left: no cell of the set is found.
pub search_misses : (m : ℕ) {set left : ℕ} {test : ℕ → Bool} → Searched set (tested test) left → left ≡ 0
    → none ≡ lowest m (λ y. has_bit set y && test y)
search_misses m {set} {left} {test} searched empty = sym (lowest_empty m (λ y. has_bit set y && test y)
    (λ y _. fails set test y ((search_ends searched empty).none refl y)))

-- Of a set of some of the m cells, the lowest that is left is looked at.
pub record Looked (m set : ℕ) (test : ℕ → Bool) (body : List ℕ) (left y : ℕ) : Type 0 where
  pub among : Among m set body
  pub searched : Searched set (tested test) left
  pub least : Lowest left y

-- It passes: it is the lowest of the set that does, and the one found.
pub search_finds : {m set : ℕ} {test : ℕ → Bool} {body : List ℕ} {left y : ℕ} → Looked m set test body left y → test y ≡ true
    → some y ≡ lowest m (λ z. has_bit set z && test z)
search_finds {m} {set} {test} {y = y} looked passes =
    let found = (search_stops looked.searched looked.least (sym passes)).one y refl in
    sym (lowest_is m (λ z. has_bit set z && test z) y (record {
      below = cell_inside looked.among y found.0;
      passes = and_both _ _ found.0 passes;
      first = λ z below. fails set test z (found.2 z below);
    }))

-- The first of the set that passes a test is the lowest of the m cells that is in the set and passes: it is looked at when those of
-- the set from it on are left, and where none passes, no cell is left.
pub first_is_lowest : {m set : ℕ} {body : List ℕ} {Passed : ℕ → Bool → Type 0} (found : Option ℕ) (test : ℕ → Bool) → Among m set body
    → FirstOf set Passed found → ((y : ℕ) (b : Bool) → has_bit set y ≡ true → Passed y b → b ≡ test y)
    → found_is found ≡ lowest m (λ y. has_bit set y && test y)
first_is_lowest {m} {set} None test among first tests = search_misses m {set = set} {left = 0} {test = test} (record {
  part = λ y e. both_ways e ((no_bit_from 0 0).1 (omega arith) y (omega arith));
  failed = λ y there gone. tests y false there (first.none refl y there);
}) refl
first_is_lowest {m} {set} {Passed = Passed} (Some y) test among first tests = search_finds {left = from_on m set y} (record {
  among = among;
  searched = record {
    part = λ z e. and_left _ _ (sym (has z) ∙ e);
    failed = λ z there gone. tests z false there (found.2 z (ltb-true z y (below z there gone)) there);
  };
  least = record {
    low = omega (arith, cell_inside among y found.0, among.few);
    inside = has y ∙ and_both _ _ found.0 (ap not (le-ltb y y (omega arith)));
    first = λ z h. has z ∙ ap (λ b. has_bit set z && not b) (lt-ltb z y h) ∙ and-false (has_bit set z);
  };
}) (sym (tests y true found.0 found.1))
  where
    found : (has_bit set y ≡ true) × Passed y true × ((z : ℕ) → z < y → has_bit set z ≡ true → Passed z false)
    found = first.one y refl

    has : (z : ℕ) → has_bit (from_on m set y) z ≡ has_bit set z && not (ltb z y)
    has z = from_on_has m set y z among.below

    below : (z : ℕ) → has_bit set z ≡ true → has_bit (from_on m set y) z ≡ false → ltb z y ≡ true
    below z there gone = by (ltb z y) (λ e. e) (λ e. both_ways (has z ∙ and_both _ _ there (ap not e)) gone)

-- Where what is asked is whether a cell's number in the row held is below that in the row of numbers, the first is the one that is torn.
pub torn_is : {m set : ℕ} {body : List ℕ} (held numbers : ℕ) {Passed : ℕ → Bool → Type 0} {found : Option ℕ} → Among m set body → FirstOf set Passed found
    → ((y : ℕ) (b : Bool) → has_bit set y ≡ true → Passed y b → b ≡ ltb (get_or body (held + y) 0) (get_or body (numbers + y) 0))
    → found_is found ≡ lowest m (lower set body held numbers)
torn_is held numbers {found = found} among first tests = first_is_lowest found _ among first tests
