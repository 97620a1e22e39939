-- THE TABLE OF A SHEET, for any code sheet that fits one: every code has its entry, and the entry says what the sheet does. And the plain
-- sheet, which is by ranges, fits one.
use Rattle.std.specs.Prelude.{if◌then◌else◌}
use Prim.Native.Nat.{ℕ, zero, suc, ◌+◌, ◌*◌, ◌/◌, ◌%◌, ◌≤◌, ◌<◌}
use mathlib.Core.Path.{◌≡◌, refl, sym, ap, ◌∙◌}
use mathlib.Core.Bool.{Bool, true, false}
use mathlib.Core.List.{List}
use native.Mathlib.Nat.{add-zero, zero-add, add-suc, suc-add}
use native.Mathlib.Omega.{arith}
use lib.Dec.{eqb, leb, ltb}
use lib.ListN.{length, get_or, get_or-eq_default}
use borrow.Author.Tests.{leb-true, ltb-true, ltb-false, ne_eqb, le-leb, lt-leb}
use Rattle.rules.specs.steps.Codes.{begin, try, give_up, read, write, Kind, known, unknown, Sheet, within, plain_sheet}
use Rattle.rules.proofs.steps.Tables.{by, and_right}
use Rattle.checks.specs.Entries.{cell_named, entry_of, entries_from, table_of, numbered, entry_says}
use Rattle.checks.specs.Promises.{TablePromise, LookupPromise, EntryPromise, SaysPromise}

-- ── Entries ───────────────────────────────────────────────────────────

-- An entry says the kind that it is of.
entry_back : (kind : Kind) → cell_named kind < 32 → entry_says (entry_of kind) ≡ kind
unfolding numbered
entry_back unknown low = refl
entry_back (known begin) low = refl
entry_back (known try) low = refl
entry_back (known give_up) low = refl
entry_back (known (read x)) low =
    let number : (32 * 4 + x) / 32 ≡ 4 = omega arith in
    let cell : (32 * 4 + x) % 32 ≡ x = omega arith in
    rw (number, cell)
entry_back (known (write x)) low =
    let number : (32 * 5 + x) / 32 ≡ 5 = omega arith in
    let cell : (32 * 5 + x) % 32 ≡ x = omega arith in
    rw (number, cell)

-- An entry with the number of a kind says that kind.
pub says_number : {entry number : ℕ} {kind : Kind} → entry / 32 ≡ number → kind ≡ numbered number (entry % 32) → SaysPromise entry kind
says_number is kind = record { replied = rw is kind; left = refl }

-- An entry has another number.
abbrev Other : ℕ → ℕ → Type 0
Other entry number = entry / 32 ≡ number → ⊥

-- An entry with none of these numbers says that its code stands for no step.
pub says_none : {entry : ℕ} → Other entry 1 → Other entry 2 → Other entry 3 → Other entry 4 → Other entry 5 → SaysPromise entry unknown
unfolding numbered
says_none {entry} a b c d e =
    let number = entry / 32 in
    record { replied = rw (ne_eqb number 1 a, ne_eqb number 2 b, ne_eqb number 3 c, ne_eqb number 4 d, ne_eqb number 5 e); left = refl }

module _ (sheet : Sheet) where
  -- So many codes have so many entries.
  entries_long : (count code : ℕ) → length (entries_from sheet count code) ≡ count
  unfolding entries_from
  entries_long zero code = refl
  entries_long (suc count) code = ap suc (entries_long count (suc code))

  -- The entry at a place is that of the code there.
  entry_there : (count code place : ℕ) → place < count → get_or (entries_from sheet count code) place 0 ≡ entry_of (sheet (code + place))
  unfolding entries_from
  entry_there zero code place low = absurd (omega arith)
  entry_there (suc count) code zero low = ap (λ at. entry_of (sheet at)) (sym (add-zero code))
  entry_there (suc count) code (suc place) low =
      entry_there count (suc code) place (omega arith) ∙ ap (λ at. entry_of (sheet at)) (suc-add code place ∙ sym (add-suc code place))

-- ── Tables ────────────────────────────────────────────────────────────

-- A sheet that fits a table: it names no cell that an entry has no room for, and no code above 255 stands for a step.
pub record Fits (sheet : Sheet) : Type 0 where
  pub narrow : (code : ℕ) → cell_named (sheet code) < 32
  pub closed : (code : ℕ) → 256 ≤ code → sheet code ≡ unknown

module _ {sheet : Sheet} (fits : Fits sheet) where
  -- The entry of what a sheet says of a code says the same.
  says_back : (code : ℕ) {entry : ℕ} → entry ≡ entry_of (sheet code) → entry_says entry ≡ sheet code
  says_back code is = ap entry_says is ∙ entry_back (sheet code) (fits.narrow code)

  module _ {table : List ℕ} (is : TablePromise sheet table) where
    -- Every code has its entry, one outside the table that of no step.
    pub table_at : (code : ℕ) → get_or table code 0 ≡ entry_of (sheet code)
    table_at code =
        by (ltb code 256)
        (λ low. rw is.replied (entry_there sheet 256 0 code (ltb-true code 256 low) ∙ ap (λ at. entry_of (sheet at)) (zero-add code)))
        (λ high. let beyond : 256 ≤ code = ltb-false code 256 high in
        rw (is.replied, fits.closed code beyond) (get_or-eq_default (table_of sheet) 0 (omega (arith, entries_long sheet 256 0))))

    -- THE TABLE DECIDES EVERY CODE AS THE SHEET DOES, whatever the sheet.
    pub table_tells : (code : ℕ) {entry : ℕ} → LookupPromise table code entry → entry_says entry ≡ sheet code
    table_tells code looked = says_back code (looked.replied ∙ table_at code)

-- ── The plain sheet ───────────────────────────────────────────────────

-- A kind names a cell that an entry has room for.
record Low (kind : Kind) : Type 0 where
  fits : cell_named kind < 32

-- A choice does so where both of its sides do.
either_low : (test : Bool) {a b : Kind} → (test ≡ true → Low a) → Low b → Low (if test then a else b)
either_low true low other = low refl
either_low false low other = other

-- So does every code of the plain sheet.
plain_low : (code : ℕ) → Low (plain_sheet code)
unfolding plain_sheet
plain_low code =
    either_low (eqb code 0) (λ is. record { fits = omega arith })
    (either_low (eqb code 1) (λ is. record { fits = omega arith })
    (either_low (eqb code 2) (λ is. record { fits = omega arith })
    (either_low (within 32 63 code) (λ inside. record { fits = omega (arith, leb-true code 63 (and_right (leb 32 code) (leb code 63) inside)) })
    (either_low (within 64 95 code) (λ inside. record { fits = omega (arith, leb-true code 95 (and_right (leb 64 code) (leb code 95) inside)) })
    (record { fits = omega arith })))))

-- And none above 255 stands for a step.
plain_closed : (code : ℕ) → 256 ≤ code → plain_sheet code ≡ unknown
unfolding plain_sheet
plain_closed code high =
    rw (
      ne_eqb code 0 (omega arith),
      ne_eqb code 1 (omega arith),
      ne_eqb code 2 (omega arith),
      le-leb 32 code (omega arith),
      lt-leb code 63 (omega arith),
      le-leb 64 code (omega arith),
      lt-leb code 95 (omega arith),
    )

-- The plain sheet fits a table.
pub plain_fits : Fits plain_sheet
plain_fits = record { narrow = λ code. (plain_low code).fits; closed = plain_closed }

-- The entry of a code says what the plain sheet does.
pub entry_tells : (code : ℕ) {entry : ℕ} → EntryPromise code entry → entry_says entry ≡ plain_sheet code
entry_tells code entry = says_back plain_fits code entry.replied
