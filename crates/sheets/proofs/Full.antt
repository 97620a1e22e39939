-- A full sheet by its counts: the test holds where one count is above the bound, and fails where none is.
use Rattle.std.proofs.Common.{ℕ, ◌≤◌, ◌<◌, ◌≡◌, sym, subst, Bool, true, false, List, ltb, length, get_or, take, arith, length-take-le}
use Rattle.std.proofs.lemmas.List.{get_or-take}
use Rattle.std.specs.Bool.{MatchBool}
use Rattle.std.specs.List.{HoldsAt, AllWithin}
use borrow.Author.Tests.{lt-ltb, le-ltb, ltb-true, ltb-false}
use Rattle.rules.proofs.steps.Tables.{some_true, some_from, some_false, some_none}
use Rattle.sheets.specs.Sheets.{sheet_long, count_at, full_above, is_full}
use Rattle.sheets.specs.Adding.{CountsTo}

module _ (words : List ℕ) where
  -- A count of the sheet above the bound fills it.
  pub full_at_lem : (place : ℕ) → place < sheet_long → full_above < get_or words place 0 → true ≡ is_full words
  unfolding is_full
  full_at_lem place inside above =
      sym (some_from sheet_long (λ y. ltb full_above (get_or words y 0)) place inside (lt-ltb full_above (get_or words place 0) above))

  -- Where no count of the sheet is above it, the sheet is not full.
  pub not_full : ((place : ℕ) → place < sheet_long → get_or words place 0 ≤ full_above) → false ≡ is_full words
  unfolding is_full
  not_full each =
      sym (some_none sheet_long (λ y. ltb full_above (get_or words y 0)) (λ y inside. le-ltb full_above (get_or words y 0) (each y inside)))

  -- In a full sheet some count is above it,
  pub full_one : is_full words ≡ true → (place : ℕ) × (place < sheet_long) × (full_above < get_or words place 0)
  unfolding is_full
  full_one full =
      let (place, inside, above) = some_true sheet_long (λ y. ltb full_above (get_or words y 0)) full in
      (place, inside, ltb-true full_above (get_or words place 0) above)

  -- and in any other each count is at most that.
  pub full_none : is_full words ≡ false → sheet_long ≤ length words → CountsTo full_above words
  unfolding is_full
  full_none free long = record {
    long = long;
    each = λ handler k inside among. ltb-false full_above (get_or words (count_at handler k) 0)
        (some_false sheet_long (λ y. ltb full_above (get_or words y 0)) free (count_at handler k) (omega arith));
  }

-- What is answered of the counts one after another, whether one of them is above the bound, is answered of the sheet.
pub some_told : (words : List ℕ) (answer : Bool) → sheet_long ≤ length words → let counts = take sheet_long words in
    MatchBool answer ((k : ℕ) × (k < length counts) × HoldsAt (λ count. full_above < count) counts k)
    (AllWithin (λ count. count ≤ full_above) counts 0 (length counts)) → answer ≡ is_full words
some_told words true long (k, below, above) =
    let inside : k < sheet_long = omega (arith, length-take-le sheet_long words long) in
    full_at_lem words k inside (subst (λ count. full_above < count) (get_or-take sheet_long words k 0 inside) (above 0))
some_told words false long none = not_full words (λ k inside. subst (λ count. count ≤ full_above) (get_or-take sheet_long words k 0 inside)
    (none k 0 (omega arith) (omega (arith, length-take-le sheet_long words long))))
