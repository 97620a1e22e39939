-- A deed on top of an entry's deeds is one more note in the entry: no answer can tell the two apart.
use Prim.Native.Nat.{ℕ, suc, ◌<◌}
use native.Mathlib.Numerals.{sub-one}
use mathlib.Core.Path.{◌≡◌, refl, sym, ap, ◌∙◌}
use mathlib.Core.Bool.{Bool, true, false, ◌||◌, or-true}
use mathlib.Core.List.{◌∷◌}
use lib.Dec.{eqb}
use borrow.Author.Tests.{lt-ltb, eqb-true, eqb-false}
use Rattle.rules.specs.steps.Tables.{put, some_below}
use Rattle.rules.specs.steps.Replies.{Content, value}
use Rattle.rules.specs.steps.Figure.{version_shows}
use Rattle.rules.specs.history.History.{look, set, some_look, has_written}
use Rattle.rules.specs.history.Replay.{after}
use Rattle.rules.specs.demand.Judge.{copied}
use Rattle.rules.proofs.steps.Tables.{by, put_here, put_other}
use Rattle.rules.proofs.steps.Searches.{some_more}
use Rattle.rules.proofs.history.Alike.{SameDeeds}
use Rattle.ledger.specs.Entries.{Entry}
use Rattle.ledger.specs.Histories.{deeds_of}
use Rattle.ledger.specs.Noting.{read_entry, written_entry}
use Rattle.ledger.proofs.Deeds.{look_passes, has_source, copy_shows, looks_at, writes_at, copies_at, leaves_at}

-- Two entries say the same of the cell y.
pub record SameAt (e f : Entry) (y : ℕ) : Type 0 where
  pub written : e.written y ≡ f.written y
  pub sources : e.sources y ≡ f.sources y
  pub copies : e.copies y ≡ f.copies y

-- Then the cell is written in both or in neither.
writes_same : (m : ℕ) {e f : Entry} {y : ℕ} → SameAt e f y → has_written (deeds_of e m) y ≡ has_written (deeds_of f m) y
writes_same m {e} {f} {y} same = writes_at e m y ∙ rw same.written (sym (writes_at f m y))

module _ (m : ℕ) {e f : Entry} {y : ℕ} (same : SameAt e f y) where
  -- Then the cell's copy shows the same,
  copies_same : copied (deeds_of e m) y ≡ copied (deeds_of f m) y
  copies_same = copies_at e m y ∙ rw (same.written, same.sources, same.copies) (sym (copies_at f m y))

  -- and what is left there.
  leaves_same : (table : ℕ → Content ℕ) → after (deeds_of e m) table y ≡ after (deeds_of f m) table y
  leaves_same table = leaves_at e table m y ∙ rw (same.written, same.copies) (sym (leaves_at f table m y))

module _ (e : Entry) (m x v : ℕ) (inside : x < m) where
  -- A read noted at x changes nothing noted of other cells,
  read_elsewhere : (source y : ℕ) → (y ≡ x → ⊥) → SameAt e (read_entry e x source v) y
  unfolding read_entry
  read_elsewhere source y apart = record {
    written = refl;
    sources = sym (put_other e.sources x _ y apart);
    copies = sym (put_other e.copies x v y apart);
  }

  -- nor does a write.
  write_elsewhere : (y : ℕ) → (y ≡ x → ⊥) → SameAt e (written_entry e x v) y
  unfolding written_entry
  write_elsewhere y apart = record {
    written = sym (put_other e.written x _ y apart);
    sources = refl;
    copies = sym (put_other e.copies x v y apart);
  }

  -- The cell's copy shows the version read,
  read_copy : (source : ℕ) → e.written x ≡ false → copied (deeds_of (read_entry e x source v) m) x ≡ version_shows source v
  unfolding read_entry has_source copy_shows
  read_copy source unwritten =
      copies_at (read_entry e x source v) m x
      ∙ rw (lt-ltb x m inside, put_here e.sources x (suc source), put_here e.copies x v, unwritten, sub-one)

  -- or the value written.
  write_copy : copied (deeds_of (written_entry e x v) m) x ≡ value v
  unfolding written_entry copy_shows
  write_copy =
      copies_at (written_entry e x v) m x
      ∙ rw (lt-ltb x m inside, put_here e.written x true, put_here e.copies x v, or-true (has_source (e.sources x)))

  -- A cell that is noted as written is written.
  write_writes : has_written (deeds_of (written_entry e x v) m) x ≡ true
  unfolding written_entry
  write_writes = writes_at (written_entry e x v) m x ∙ rw (lt-ltb x m inside, put_here e.written x true)

  -- A read leaves nothing on a table at a cell that is not written,
  read_leaves : (source : ℕ) (table : ℕ → Content ℕ) → e.written x ≡ false
      → after (deeds_of e m) table x ≡ after (deeds_of (read_entry e x source v) m) table x
  unfolding read_entry
  read_leaves source table unwritten =
      leaves_at e table m x ∙ rw (lt-ltb x m inside, unwritten)
      (sym (leaves_at (read_entry e x source v) table m x ∙ rw (lt-ltb x m inside, unwritten)))

  -- and a write its value.
  write_leaves : (table : ℕ → Content ℕ) → after (deeds_of (written_entry e x v) m) table x ≡ value v
  unfolding written_entry
  write_leaves table =
      leaves_at (written_entry e x v) table m x
      ∙ rw (lt-ltb x m inside, put_here e.written x true, put_here e.copies x v)

  -- Some read passes a test: the new one, or one before.
  read_looks : (source : ℕ) (test : ℕ → ℕ → Bool) → e.sources x ≡ 0
      → test x source || some_look test (deeds_of e m) ≡ some_look test (deeds_of (read_entry e x source v) m)
  unfolding read_entry look_passes
  read_looks source test unread =
      ap (λ rest. test x source || rest) (looks_at e test m)
      ∙ ap (λ (b : Bool). b || some_below m before) (sym (ap (look_passes test x) (put_here e.sources x (suc source))))
      ∙ some_more m before now x inside (ap (look_passes test x) unread)
      (λ y apart. ap (look_passes test y) (put_other e.sources x (suc source) y apart))
      ∙ sym (looks_at (read_entry e x source v) test m)
    where
      -- Of each cell, whether the read noted passes: before,
      before : ℕ → Bool
      before c = look_passes test c (e.sources c)

      -- and now.
      now : ℕ → Bool
      now c = look_passes test c (put e.sources x (suc source) c)

  -- A read from the cells, of a cell with nothing noted, is noted as one more read.
  pub read_noted : (source : ℕ) → e.sources x ≡ 0 → e.written x ≡ false
      → SameDeeds (look x source (version_shows source v) ∷ deeds_of e m) (deeds_of (read_entry e x source v) m)
  unfolding some_look has_written copied after put read_entry
  read_noted source unread unwritten = record {
    looks = λ test. read_looks source test unread;
    writes = λ y. writes_at e m y ∙ sym (writes_at (read_entry e x source v) m y);
    copies = λ y. by (eqb y x)
        (λ q. rw q (sym (rw (eqb-true y x q) (read_copy source unwritten))))
        (λ q. rw q (copies_same m (read_elsewhere source y (eqb-false y x q))));
    leaves = λ table y. by (eqb y x)
        (λ q. rw (eqb-true y x q) (read_leaves source table unwritten))
        (λ q. leaves_same m (read_elsewhere source y (eqb-false y x q)) table);
  }

  -- A write is noted as a write.
  pub write_noted : SameDeeds (set x v ∷ deeds_of e m) (deeds_of (written_entry e x v) m)
  unfolding some_look has_written copied after put written_entry
  write_noted = record {
    looks = λ test. looks_at e test m ∙ sym (looks_at (written_entry e x v) test m);
    writes = λ y. by (eqb y x)
        (λ q. rw q (sym (rw (eqb-true y x q) write_writes)))
        (λ q. rw q (writes_same m (write_elsewhere y (eqb-false y x q))));
    copies = λ y. by (eqb y x)
        (λ q. rw q (sym (rw (eqb-true y x q) write_copy)))
        (λ q. rw q (copies_same m (write_elsewhere y (eqb-false y x q))));
    leaves = λ table y. by (eqb y x)
        (λ q. rw q (sym (rw (eqb-true y x q) (write_leaves table))))
        (λ q. rw q (leaves_same m (write_elsewhere y (eqb-false y x q)) table));
  }
