-- The stores of a note, at places that were computed: they are the stores of the law at the places that the layout says.
use Rattle.std.proofs.Common.{ℕ, ◌+◌, ◌^◌, ◌≤◌, ◌<◌, ◌≡◌, ap, ap₂, ◌∙◌, subst, List, length, get_or, set}
use Rattle.rules.specs.steps.Register.{zeros}
use Rattle.layout.specs.Places.{row_long, row_start, written_at, source_at, copy_at}
use Rattle.layout.specs.Bits.{with_bit}
use Rattle.words.specs.Rows.{Changed}
use Rattle.words.proofs.Changes.{changed_at}
use Rattle.ledger.specs.Entries.{entry_in, with_entry}
use Rattle.ledger.specs.Noting.{empty_entry, read_entry, written_entry, committed_entry}
use Rattle.noting.proofs.Stores.{row_emptied, row_copied, read_stored, write_stored}

module _ (words : List ℕ) (row : ℕ) (fits : row_start row + row_long ≤ length words) where
  -- A row that is cleared from its start, and then its head stored, is empty but for the head.
  pub emptied_at : {start : ℕ} {cleared : List ℕ} (head : ℕ) → start ≡ row_start row → Changed start row_long zeros words cleared
      → set cleared start head ≡ with_entry words row (empty_entry head)
  emptied_at {cleared = cleared} head placed changed =
      ap (λ (at : ℕ). set cleared at head) placed ∙ row_emptied words row fits head (changed_at placed changed)

  -- A row that another is copied to, and then the handler stored as its head, is that one's commit.
  pub copied_at : {start from : ℕ} {copied : List ℕ} (other i : ℕ) → start ≡ row_start row → from ≡ row_start other
      → Changed start row_long (λ y. get_or words (from + y) 0) words copied → get_or words (written_at other) 0 < 2 ^ 32
      → set copied start i ≡ with_entry words row (committed_entry i (entry_in words other))
  copied_at {copied = copied} other i placed read changed small =
      ap (λ (at : ℕ). set copied at i) placed
      ∙ row_copied words row fits other i
      (subst (λ (at : ℕ). Changed (row_start row) row_long (λ y. get_or words (at + y) 0) words copied) read (changed_at placed changed)) small

  module _ (x : ℕ) (inside : x < 32) (small : get_or words (written_at row) 0 < 2 ^ 32) where
    -- The source and the value of a read, stored, note it.
    pub read_at : {source copy : ℕ} (place value : ℕ) → source ≡ source_at row x → copy ≡ copy_at row x
        → set (set words source (place + 1)) copy value ≡ with_entry words row (read_entry (entry_in words row) x place value)
    read_at place value first second =
        ap₂ (λ (a b : ℕ). set (set words a (place + 1)) b value) first second ∙ read_stored words row fits x place value inside small

    -- The written cells with x more and the value, stored, note a write.
    pub write_at : {written copy word : ℕ} (value : ℕ) → written ≡ written_at row → copy ≡ copy_at row x → word ≡ with_bit (get_or words written 0) x
        → set (set words written word) copy value ≡ with_entry words row (written_entry (entry_in words row) x value)
    write_at {written} {copy} value first second joined =
        ap (λ (w : ℕ). set (set words written w) copy value) joined
        ∙ ap₂ (λ (a b : ℕ). set (set words a (with_bit (get_or words a 0) x)) b value) first second
        ∙ write_stored words row fits x value inside small
