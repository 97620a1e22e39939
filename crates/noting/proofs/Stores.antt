-- Words after the stores of a note: they hold the new entry in its row, and are else as they were.
use Rattle.std.proofs.Common.{ℕ, suc, ◌+◌, ◌*◌, ◌^◌, ◌≤◌, ◌<◌, arith, add-one, ◌≡◌, refl, sym, ap, ◌∙◌, List, length, get_or, set, length-set}
use Rattle.std.proofs.Common.{get_or-set_same, get_or-set_other}
use Rattle.rules.specs.steps.Register.{zeros}
use Rattle.rules.proofs.steps.Tables.{put_each}
use Rattle.layout.specs.Bits.{mask, with_bit}
use Rattle.layout.proofs.Bits.{mask_none, mask_has, mask_with}
use Rattle.layout.specs.Rows.{Untouched}
use Rattle.words.specs.Rows.{Changed}
use Rattle.ledger.specs.Entries.{Entry, entry_in, with_entry, commits_noted, handler_row, commit_row}
use Rattle.ledger.specs.Noting.{empty_entry, read_entry, written_entry, committed_entry, note_commit_row}
use Rattle.ledger.proofs.Entries.{lays_entry, with_untouched}

-- Nothing is touched yet.
untouched_none : (from long : ℕ) (words : List ℕ) → from + long ≤ length words → Untouched from long words words
untouched_none from long words fits = record { fits = fits; size = refl; below = λ k l. refl; above = λ k l. refl }

-- A store inside a part touches nothing outside it.
untouched_set : {from long : ℕ} {words after : List ℕ} (place v : ℕ) → Untouched from long words after → from ≤ place → place < from + long
    → Untouched from long words (set after place v)
untouched_set {from} {long} {words} {after} place v same low high = record {
  fits = same.fits;
  size = length-set after place v ∙ same.size;
  below = λ k l. get_or-set_other after place k v 0 (omega arith) ∙ same.below k l;
  above = λ k l. get_or-set_other after place k v 0 (omega arith) ∙ same.above k l;
}

module _ (words : List ℕ) (row : ℕ) (fits : row * 66 + 66 ≤ length words) where
  -- A row that is stored whole, and then its head, holds the entry that its words are.
  pub row_stored : {table : ℕ → ℕ} {after : List ℕ} (e : Entry) → Changed (row * 66) 66 table words after
      → table 1 ≡ mask 32 e.written → ((c : ℕ) → c < 32 → table (2 + c) ≡ e.sources c) → ((c : ℕ) → c < 32 → table (34 + c) ≡ e.copies c)
      → set after (row * 66) e.head ≡ with_entry words row e
  row_stored {table} {after} e changed written sources copies = lays_entry (record {
    untouched = untouched_set (row * 66) e.head changed.untouched (omega arith) (omega arith);
    head = get_or-set_same after (row * 66) e.head 0 (omega (arith, changed.untouched.size));
    written = behind 1 (omega arith) (omega arith) ∙ written;
    sources = λ c l. behind (2 + c) (omega arith) (omega arith) ∙ sources c l;
    copies = λ c l. behind (34 + c) (omega arith) (omega arith) ∙ copies c l;
  })
    where
      behind : (y : ℕ) → 1 ≤ y → y < 66 → get_or (set after (row * 66) e.head) (row * 66 + y) 0 ≡ table y
      behind y low high = get_or-set_other after (row * 66) (row * 66 + y) e.head 0 (omega arith) ∙ changed.inside y high

  -- A row that is cleared, and then its head stored, is empty but for the head.
  pub row_emptied : {cleared : List ℕ} (head : ℕ) → Changed (row * 66) 66 zeros words cleared
      → set cleared (row * 66) head ≡ with_entry words row (empty_entry head)
  unfolding empty_entry
  row_emptied head changed = row_stored (empty_entry head) changed (sym (mask_none 32)) (λ c l. refl) (λ c l. refl)

  -- A row that another is copied to, and then the handler stored as its head, is that one's commit.
  pub row_copied : {copied : List ℕ} (from i : ℕ) → Changed (row * 66) 66 (λ y. get_or words (from * 66 + y) 0) words copied
      → get_or words (from * 66 + 1) 0 < 2 ^ 32 → set copied (row * 66) i ≡ with_entry words row (committed_entry i (entry_in words from))
  unfolding committed_entry entry_in
  row_copied from i changed small = row_stored (committed_entry i (entry_in words from)) changed
      (sym (mask_has 32 (get_or words (from * 66 + 1) 0) small)) (λ c l. refl) (λ c l. refl)

  -- ── Two stores ──────────────────────────────────────────────────────

  module _ (a b p q : ℕ) (first : 1 ≤ a) (inside : a < 66) (second : a < b) (last : b < 66) where
    -- Two words of a row, behind its head, are stored.
    abbrev stored : List ℕ
    stored = set (set words (row * 66 + a) p) (row * 66 + b) q

    -- Nothing outside the row is touched,
    stored_untouched : Untouched (row * 66) 66 words stored
    stored_untouched =
        untouched_set (row * 66 + b) q (untouched_set (row * 66 + a) p (untouched_none (row * 66) 66 words fits) (omega arith) (omega arith))
        (omega arith) (omega arith)

    -- the two words are there,
    stored_first : get_or stored (row * 66 + a) 0 ≡ p
    stored_first =
        get_or-set_other (set words (row * 66 + a) p) (row * 66 + b) (row * 66 + a) q 0 (omega arith)
        ∙ get_or-set_same words (row * 66 + a) p 0 (omega arith)

    stored_second : get_or stored (row * 66 + b) 0 ≡ q
    stored_second = get_or-set_same (set words (row * 66 + a) p) (row * 66 + b) q 0 (omega (arith, length-set words (row * 66 + a) p))

    -- and every other word is as it was.
    stored_else : (place : ℕ) → (place ≡ row * 66 + a → ⊥) → (place ≡ row * 66 + b → ⊥) → get_or stored place 0 ≡ get_or words place 0
    stored_else place apart away =
        get_or-set_other (set words (row * 66 + a) p) (row * 66 + b) place q 0 away ∙ get_or-set_other words (row * 66 + a) place p 0 apart

  -- The source and the value of a read, stored, note it.
  pub read_stored : (x place value : ℕ) → x < 32 → get_or words (row * 66 + 1) 0 < 2 ^ 32
      → set (set words (row * 66 + (2 + x)) (place + 1)) (row * 66 + (34 + x)) value
      ≡ with_entry words row (read_entry (entry_in words row) x place value)
  unfolding read_entry entry_in
  read_stored x place value inside small = lays_entry (record {
    untouched = stored_untouched (2 + x) (34 + x) (place + 1) value (omega arith) (omega arith) (omega arith) (omega arith);
    head = else (row * 66) (omega arith) (omega arith);
    written = else (row * 66 + 1) (omega arith) (omega arith) ∙ sym (mask_has 32 (get_or words (row * 66 + 1) 0) small);
    sources = λ c l. put_each (λ c word. c < 32 → get_or after (row * 66 + (2 + c)) 0 ≡ word) (entry_in words row).sources x (suc place)
        (λ l. stored_first (2 + x) (34 + x) (place + 1) value (omega arith) (omega arith) (omega arith) (omega arith) ∙ add-one place)
        (λ c apart l. else (row * 66 + (2 + c)) (omega (arith, apart)) (omega (arith, l))) c l;
    copies = λ c l. put_each (λ c word. c < 32 → get_or after (row * 66 + (34 + c)) 0 ≡ word) (entry_in words row).copies x value
        (λ l. stored_second (2 + x) (34 + x) (place + 1) value (omega arith) (omega arith) (omega arith) (omega arith))
        (λ c apart l. else (row * 66 + (34 + c)) (omega (arith, inside)) (omega (arith, apart))) c l;
  })
    where
      after : List ℕ
      after = stored (2 + x) (34 + x) (place + 1) value (omega arith) (omega arith) (omega arith) (omega arith)

      else : (k : ℕ) → (k ≡ row * 66 + (2 + x) → ⊥) → (k ≡ row * 66 + (34 + x) → ⊥) → get_or after k 0 ≡ get_or words k 0
      else = stored_else (2 + x) (34 + x) (place + 1) value (omega arith) (omega arith) (omega arith) (omega arith)

  -- The written cells with x more and the value, stored, note a write.
  pub write_stored : (x value : ℕ) → x < 32 → get_or words (row * 66 + 1) 0 < 2 ^ 32
      → set (set words (row * 66 + 1) (with_bit (get_or words (row * 66 + 1) 0) x)) (row * 66 + (34 + x)) value
      ≡ with_entry words row (written_entry (entry_in words row) x value)
  unfolding written_entry entry_in
  write_stored x value inside small = lays_entry (record {
    untouched = stored_untouched 1 (34 + x) joined value (omega arith) (omega arith) (omega arith) (omega arith);
    head = else (row * 66) (omega arith) (omega arith);
    written = stored_first 1 (34 + x) joined value (omega arith) (omega arith) (omega arith) (omega arith)
        ∙ sym (mask_with 32 (get_or words (row * 66 + 1) 0) x small inside);
    sources = λ c l. else (row * 66 + (2 + c)) (omega arith) (omega arith);
    copies = λ c l. put_each (λ c word. c < 32 → get_or after (row * 66 + (34 + c)) 0 ≡ word) (entry_in words row).copies x value
        (λ l. stored_second 1 (34 + x) joined value (omega arith) (omega arith) (omega arith) (omega arith))
        (λ c apart l. else (row * 66 + (34 + c)) (omega arith) (omega (arith, apart))) c l;
  })
    where
      joined : ℕ
      joined = with_bit (get_or words (row * 66 + 1) 0) x

      after : List ℕ
      after = stored 1 (34 + x) joined value (omega arith) (omega arith) (omega arith) (omega arith)

      else : (k : ℕ) → (k ≡ row * 66 + 1 → ⊥) → (k ≡ row * 66 + (34 + x) → ⊥) → get_or after k 0 ≡ get_or words k 0
      else = stored_else 1 (34 + x) joined value (omega arith) (omega arith) (omega arith) (omega arith)

-- There are as many words with an entry as before.
pub with_length : (words : List ℕ) {after : List ℕ} (row : ℕ) (e : Entry) → after ≡ with_entry words row e → row * 66 + 66 ≤ length words
    → length after ≡ length words
with_length words row e same fits = ap length same ∙ (with_untouched words row e fits).size

-- A row copied, another emptied, and the number of commits stored, note a commit.
pub commit_stored : (words : List ℕ) (i : ℕ) {row : ℕ} {copied emptied : List ℕ} → row ≡ handler_row i
    → emptied ≡ with_entry copied row (empty_entry 0)
    → copied ≡ with_entry words (commit_row (commits_noted words + 1)) (committed_entry i (entry_in words (handler_row i)))
    → set emptied 2 (commits_noted words + 1) ≡ note_commit_row words i
unfolding note_commit_row
commit_stored words i there empty copy =
    rw (empty, there, copy, add-one (commits_noted words))
