-- Laws of rows: lengths, entries, parts, and how words are cut into rows; a row or rows are known by their entries. And of a
-- table below m: its entries there, and the same one beyond.
use Prim.Native.Nat.{ℕ, zero, suc, ◌+◌, ◌*◌, ◌≤◌, ◌<◌}
use mathlib.Core.Path.{◌≡◌, refl, sym, ap, ap₂, ◌∙◌, fun_ext, subst}
use mathlib.Core.Bool.{true}
use mathlib.Core.List.{List, [], ◌∷◌, ◌++◌, append_assoc, append-nil}
use native.Mathlib.Omega.{arith}
use native.Mathlib.Nat.{suc-mul, mul-le-mul_right}
use lib.Dec.{eqb, ltb}
use lib.ListN.{length, get_or, take, drop, length-append, length-take, length-drop, take-append-drop, drop_of_length-le, get_or-append}
use lib.Seq.{ext_get_or, get_or-take, get_or-drop, drop-drop, get_or-append-add, take_at, drop_at}
use borrow.Author.Tests.{ltb-true, ltb-false, lt-ltb, le-ltb, eqb-true, eqb-false}
use Rattle.rules.proofs.steps.Tables.{by, SameFrom}
use Rattle.layout.specs.Rows.{row, rows, part, below}

-- ── Parts ─────────────────────────────────────────────────────────────

-- A part that lies in the words has its length.
pub part_length : (from long : ℕ) (words : List ℕ) → from + long ≤ length words → length (part from long words) ≡ long
part_length from long words fits = simp (length-take, length-drop) (omega arith)

-- A word of a part.
pub part_at : (from long : ℕ) (words : List ℕ) (y : ℕ) → y < long → get_or (part from long words) y 0 ≡ get_or words (from + y) 0
part_at from long words y h = rw (get_or-take, get_or-drop)

-- A part is known by its words.
pub part_is : (from long : ℕ) (words new : List ℕ) → from + long ≤ length words → length new ≡ long
    → ((y : ℕ) → y < long → get_or words (from + y) 0 ≡ get_or new y 0) → part from long words ≡ new
part_is from long words new fits size same = ext_get_or 0 (part from long words) new (size_is ∙ sym size) each
  where
    size_is : length (part from long words) ≡ long
    size_is = part_length from long words fits

    each : (y : ℕ) → y < length (part from long words) → get_or (part from long words) y 0 ≡ get_or new y 0
    each y h = let inside : y < long = omega (arith, size_is) in part_at from long words y inside ∙ same y inside

-- Words from a place on are a part of them and what follows it.
pub part_cut : (from long : ℕ) (words : List ℕ) → drop from words ≡ part from long words ++ drop (from + long) words
part_cut from long words =
    sym (take-append-drop long (drop from words))
    ∙ ap (λ (rest : List ℕ). part from long words ++ rest) (drop-drop long from words)

-- ── A table as a row ──────────────────────────────────────────────────

-- A row of m words has m words.
pub row_length : (m : ℕ) (table : ℕ → ℕ) → length (row m table) ≡ m
unfolding row
row_length zero table = refl
row_length (suc m) table = ap suc (row_length m (λ c. table (suc c)))

-- A row's words are the table's.
pub row_at : (m : ℕ) (table : ℕ → ℕ) (c : ℕ) → c < m → get_or (row m table) c 0 ≡ table c
unfolding row
row_at zero table c h = absurd (omega arith)
row_at (suc m) table zero h = refl
row_at (suc m) table (suc c) h = row_at m (λ k. table (suc k)) c (omega arith)

-- A word of a row with others behind it.
pub row_first : (m : ℕ) (table : ℕ → ℕ) (rest : List ℕ) (c : ℕ) → c < m → get_or (row m table ++ rest) c 0 ≡ table c
row_first m table rest c h = get_or-append (row m table) rest 0 c (omega (arith, row_length m table)) ∙ row_at m table c h

-- A word behind a row.
pub row_behind : (m : ℕ) (table : ℕ → ℕ) (rest : List ℕ) (c : ℕ) → get_or (row m table ++ rest) (m + c) 0 ≡ get_or rest c 0
row_behind m table rest c =
    ap (λ (long : ℕ). get_or (row m table ++ rest) (long + c) 0) (sym (row_length m table)) ∙ get_or-append-add (row m table) rest c 0

-- Words that are a table's from a place on are cut into its row and what follows.
pub row_cut : (from m : ℕ) (table : ℕ → ℕ) (words : List ℕ) → from + m ≤ length words
    → ((c : ℕ) → c < m → get_or words (from + c) 0 ≡ table c) → drop from words ≡ row m table ++ drop (from + m) words
row_cut from m table words fits same = part_cut from m words ∙ ap (λ (front : List ℕ). front ++ drop (from + m) words) first
  where
    first : part from m words ≡ row m table
    first = part_is from m words (row m table) fits (row_length m table) (λ c h. same c h ∙ sym (row_at m table c h))

-- Words whose last m are a table's end in its row.
pub row_last : (from m : ℕ) (table : ℕ → ℕ) (words : List ℕ) → length words ≡ from + m
    → ((c : ℕ) → c < m → get_or words (from + c) 0 ≡ table c) → drop from words ≡ row m table
row_last from m table words size same =
    row_cut from m table words (omega arith) same
    ∙ ap (λ (rest : List ℕ). row m table ++ rest) nothing ∙ append-nil (row m table)
  where
    nothing : drop (from + m) words ≡ []
    nothing = drop_of_length-le words {i = from + m} (omega arith)

-- Tables that are the same below m are the same row.
pub row_ext : (m : ℕ) (table other : ℕ → ℕ) → ((c : ℕ) → c < m → table c ≡ other c) → row m table ≡ row m other
unfolding row
row_ext zero table other same = refl
row_ext (suc m) table other same =
    ap₂ ◌∷◌ (same 0 (omega arith)) (row_ext m (λ c. table (suc c)) (λ c. other (suc c)) (λ c h. same (suc c) (omega arith)))

-- ── Rows, one after another ───────────────────────────────────────────

-- Row i of so many words each ends where row j begins or before, if i is below j.
pub rows_apart : (long i j : ℕ) → i < j → i * long + long ≤ j * long
rows_apart long i j h = subst (λ (end : ℕ). end ≤ j * long) (suc-mul i long) (mul-le-mul_right long h)

-- k rows of so many words each.
pub rows_length : (k long : ℕ) (each : ℕ → List ℕ) → ((i : ℕ) → i < k → length (each i) ≡ long) → length (rows k each) ≡ k * long
unfolding rows
rows_length zero long each sizes = omega arith
rows_length (suc k) long each sizes =
    length-append (rows k each) (each k)
    ∙ ap₂ ◌+◌ (rows_length k long each (λ i h. sizes i (omega arith))) (sizes k (omega arith)) ∙ sym (suc-mul k long)

-- Row i is a part of the rows, with others behind them.
pub rows_part : (k long : ℕ) (each : ℕ → List ℕ) → ((i : ℕ) → i < k → length (each i) ≡ long) → (rest : List ℕ)
    → (i : ℕ) → i < k → part (i * long) long (rows k each ++ rest) ≡ each i
unfolding rows
rows_part zero long each sizes rest i h = absurd (omega arith)
rows_part (suc k) long each sizes rest i h =
    ap (part (i * long) long) (append_assoc (rows k each) (each k) rest) ∙ by (eqb i k) last
    (λ e. rows_part k long each (λ j l. sizes j (omega arith)) (each k ++ rest) i (omega (arith, eqb-false i k e)))
  where
    front : length (rows k each) ≡ k * long
    front = rows_length k long each (λ j l. sizes j (omega arith))

    last : eqb i k ≡ true → part (i * long) long (rows k each ++ (each k ++ rest)) ≡ each i
    last e =
        rw (eqb-true i k e)
        (ap (take long) (drop_at (rows k each) (each k ++ rest) (k * long) front)
        ∙ take_at (each k) rest long (sizes k (omega arith)))

-- Rows that are the same below k are the same words.
pub rows_ext : (k : ℕ) (each other : ℕ → List ℕ) → ((i : ℕ) → i < k → each i ≡ other i) → rows k each ≡ rows k other
unfolding rows
rows_ext zero each other same = refl
rows_ext (suc k) each other same = ap₂ ◌++◌ (rows_ext k each other (λ i h. same i (omega arith))) (same k (omega arith))

-- Words whose parts from a place on are given are cut into those rows and what follows.
pub rows_cut : (from k long : ℕ) (each : ℕ → List ℕ) (words : List ℕ)
    → ((i : ℕ) → i < k → part (from + i * long) long words ≡ each i)
    → drop from words ≡ rows k each ++ drop (from + k * long) words
unfolding rows
rows_cut from zero long each words parts = ap (λ (place : ℕ). drop place words) here
  where
    here : from ≡ from + 0 * long
    here = omega arith
rows_cut from (suc k) long each words parts =
    rows_cut from k long each words (λ i h. parts i (omega arith))
    ∙ ap (λ (rest : List ℕ). rows k each ++ rest) next ∙ sym (append_assoc (rows k each) (each k) (drop end words))
  where
    end : ℕ
    end = from + suc k * long

    place : from + k * long + long ≡ end
    place = omega (arith, suc-mul k long)

    next : drop (from + k * long) words ≡ each k ++ drop end words
    next =
        part_cut (from + k * long) long words
        ∙ ap₂ (λ (here : List ℕ) (at_end : ℕ). here ++ drop at_end words) (parts k (omega arith)) place

-- ── A table below m ───────────────────────────────────────────────────

module _ {ℓ} {A : Type ℓ} (m : ℕ) (rest : A) (table : ℕ → A) where
  -- Below m the entries are the table's.
  pub below_inside : (y : ℕ) → y < m → below m rest table y ≡ table y
  unfolding below
  below_inside y h = rw (lt-ltb y m h)

  -- From m on there is the one entry.
  pub below_beyond : SameFrom m rest (below m rest table)
  unfolding below
  below_beyond y h = rw (le-ltb y m h)

  -- What holds of the table's entries and of that one holds of all.
  pub below_each : (Q : A → Type 0) → ((y : ℕ) → Q (table y)) → Q rest → (y : ℕ) → Q (below m rest table y)
  unfolding below
  below_each Q inside beyond y = by (ltb y m) (λ e. rw e (inside y)) (λ e. rw e beyond)

  -- A table with that entry from m on is known by its entries below m.
  pub below_is : (other : ℕ → A) → ((y : ℕ) → y < m → table y ≡ other y) → SameFrom m rest other → below m rest table ≡ other
  unfolding below
  below_is other same beyond = fun_ext (λ y. by (ltb y m)
      (λ e. rw e (same y (ltb-true y m e)))
      (λ e. rw e (sym (beyond y (ltb-false y m e)))))
