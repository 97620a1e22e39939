-- A row of the judge's words with an entry put in: the row says that entry, and every other row says what it said. Words that hold
-- an entry place by place, and are else as they were, are the words with that entry.
use Prim.Native.Nat.{ℕ, ◌+◌, ◌*◌, ◌≤◌, ◌<◌}
use native.Mathlib.Omega.{arith}
use mathlib.Core.Path.{◌≡◌, refl, sym, ap, ap₂, ◌∙◌}
use mathlib.Core.List.{List, [], ◌∷◌, ◌++◌}
use lib.ListN.{length, get_or, length-append}
use lib.Seq.{drop-cons, get_or-append-add}
use lib.Dec.{ltb}
use borrow.Author.Tests.{ltb-true, ltb-false}
use Rattle.rules.proofs.steps.Tables.{by}
use Rattle.layout.specs.Bits.{has_bit, mask}
use Rattle.layout.specs.Rows.{row, part, splice, Untouched}
use Rattle.layout.proofs.Bits.{has_mask}
use Rattle.layout.proofs.Rows.{part_length, part_at, row_length, row_at, row_first, row_behind, row_cut, row_last}
use Rattle.layout.proofs.Untouched.{splice_part, splice_untouched, untouched_is}
use Rattle.ledger.specs.Entries.{Entry, entry_in, pour_entry, with_entry}
use Rattle.ledger.proofs.OneDeedMore.{SameAt}

-- The words hold an entry.
pub record HoldsEntry (e : Entry) (words : List ℕ) : Type 0 where
  pub size : length words ≡ 66
  pub head : get_or words 0 0 ≡ e.head
  pub written : get_or words 1 0 ≡ mask 32 e.written
  pub sources : (c : ℕ) → c < 32 → get_or words (2 + c) 0 ≡ e.sources c
  pub copies : (c : ℕ) → c < 32 → get_or words (34 + c) 0 ≡ e.copies c

-- Words that hold an entry are its poured words.
pub entry_is : (e : Entry) (words : List ℕ) → HoldsEntry e words → words ≡ pour_entry e
unfolding pour_entry
entry_is e words holds =
    drop-cons words 0 0 (omega (arith, holds.size)) ∙ ap₂ ◌∷◌ holds.head
    (drop-cons words 1 0 (omega (arith, holds.size)) ∙ ap₂ ◌∷◌ holds.written
    (row_cut 2 32 e.sources words (omega (arith, holds.size)) holds.sources
    ∙ ap (λ (rest : List ℕ). row 32 e.sources ++ rest) (row_last 34 32 e.copies words holds.size holds.copies)))

-- An entry's poured words hold it.
pub poured_entry : (e : Entry) → HoldsEntry e (pour_entry e)
unfolding pour_entry
poured_entry e = record {
  size = omega (arith, length-append (row 32 e.sources) (row 32 e.copies), row_length 32 e.sources, row_length 32 e.copies);
  head = refl;
  written = refl;
  sources = λ c l. behind (2 + c) c refl ∙ row_first 32 e.sources _ c l;
  copies = λ c l. behind (34 + c) (32 + c) (omega arith) ∙ row_behind 32 e.sources _ c ∙ row_at 32 e.copies c l;
}
  where
    tables : List ℕ
    tables = row 32 e.sources ++ row 32 e.copies

    behind : (place c : ℕ) → place ≡ 2 + c → get_or (pour_entry e) place 0 ≡ get_or tables c 0
    behind place c same =
        ap (λ (k : ℕ). get_or (pour_entry e) k 0) same ∙ get_or-append-add (e.head ∷ mask 32 e.written ∷ []) tables c 0

-- The first word of a row, as a word of the row.
at_start_lem : (words : List ℕ) (place : ℕ) → get_or words (place * 66) 0 ≡ get_or words (place * 66 + 0) 0
at_start_lem words place = ap (λ (k : ℕ). get_or words k 0) (let same : place * 66 ≡ place * 66 + 0 = omega arith in same)

-- ── One row of many ───────────────────────────────────────────────────

-- Two entries have the same head, and say the same of 32 cells.
pub record SameEntry (e f : Entry) : Type 0 where
  pub head : e.head ≡ f.head
  pub cells : (c : ℕ) → c < 32 → SameAt e f c

-- Words hold an entry in a row, and are else as they were.
pub record LaysEntry (place : ℕ) (e : Entry) (words after : List ℕ) : Type 0 where
  pub untouched : Untouched (place * 66) 66 words after
  pub head : get_or after (place * 66) 0 ≡ e.head
  pub written : get_or after (place * 66 + 1) 0 ≡ mask 32 e.written
  pub sources : (c : ℕ) → c < 32 → get_or after (place * 66 + (2 + c)) 0 ≡ e.sources c
  pub copies : (c : ℕ) → c < 32 → get_or after (place * 66 + (34 + c)) 0 ≡ e.copies c

-- Such words are the words with that entry.
pub lays_entry : {place : ℕ} {e : Entry} {words after : List ℕ} → LaysEntry place e words after → after ≡ with_entry words place e
unfolding with_entry
lays_entry {place} {e} {words} {after} lays =
    untouched_is lays.untouched ∙ ap (λ new. splice (place * 66) 66 new words) (entry_is e (part (place * 66) 66 after) holds)
  where
    here : (y : ℕ) → y < 66 → get_or (part (place * 66) 66 after) y 0 ≡ get_or after (place * 66 + y) 0
    here y l = part_at (place * 66) 66 after y l

    holds : HoldsEntry e (part (place * 66) 66 after)
    holds = record {
      size = part_length (place * 66) 66 after (omega (arith, lays.untouched.size, lays.untouched.fits));
      head = here 0 (omega arith) ∙ sym (at_start_lem after place) ∙ lays.head;
      written = here 1 (omega arith) ∙ lays.written;
      sources = λ c l. here (2 + c) (omega arith) ∙ lays.sources c l;
      copies = λ c l. here (34 + c) (omega arith) ∙ lays.copies c l;
    }

-- Where a row is untouched, it says what it said.
pub entry_kept : (words after : List ℕ) (place : ℕ)
    → ((y : ℕ) → y < 66 → get_or after (place * 66 + y) 0 ≡ get_or words (place * 66 + y) 0)
    → SameEntry (entry_in after place) (entry_in words place)
unfolding entry_in
entry_kept words after place kept = record {
  head = at_start_lem after place ∙ kept 0 (omega arith) ∙ sym (at_start_lem words place);
  cells = λ c l. record {
    written = ap (λ (word : ℕ). has_bit word c) (kept 1 (omega arith));
    sources = kept (2 + c) (omega arith);
    copies = kept (34 + c) (omega arith);
  };
}

module _ (words : List ℕ) (place : ℕ) (e : Entry) (fits : place * 66 + 66 ≤ length words) where
  -- Outside the row the words are as before,
  pub with_untouched : Untouched (place * 66) 66 words (with_entry words place e)
  unfolding with_entry
  with_untouched = splice_untouched (place * 66) 66 (pour_entry e) words (poured_entry e).size fits

  -- and in the row they are the entry's.
  with_row : (y : ℕ) → y < 66 → get_or (with_entry words place e) (place * 66 + y) 0 ≡ get_or (pour_entry e) y 0
  unfolding with_entry
  with_row y l =
      sym (part_at (place * 66) 66 (with_entry words place e) y l)
      ∙ ap (λ (part : List ℕ). get_or part y 0) (splice_part (place * 66) 66 (pour_entry e) words (poured_entry e).size fits)

  -- The row says the entry.
  pub with_here : SameEntry (entry_in (with_entry words place e) place) e
  unfolding entry_in
  with_here = record {
    head = at_start_lem (with_entry words place e) place ∙ with_row 0 (omega arith) ∙ (poured_entry e).head;
    cells = λ c l. record {
      written = ap (λ (word : ℕ). has_bit word c) (with_row 1 (omega arith) ∙ (poured_entry e).written) ∙ has_mask 32 e.written c l;
      sources = with_row (2 + c) (omega arith) ∙ (poured_entry e).sources c l;
      copies = with_row (34 + c) (omega arith) ∙ (poured_entry e).copies c l;
    };
  }

  -- Another row says what it said.
  pub with_other : (other : ℕ) → (other ≡ place → ⊥) → SameEntry (entry_in (with_entry words place e) other) (entry_in words other)
  with_other other apart = entry_kept words (with_entry words place e) other (λ y l. by (ltb other place)
      (λ t. with_untouched.below (other * 66 + y) (omega (arith, ltb-true other place t)))
      (λ t. with_untouched.above (other * 66 + y) (omega (arith, apart, ltb-false other place t))))
