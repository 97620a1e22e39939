-- What an entry's deeds are, cell by cell: which cells are read, which reads pass a test, what was written, what the copies show, and what is left on a table.
use Rattle.std.specs.Prelude.{if◌then◌else◌}
use Prim.Native.Nat.{ℕ, zero, suc, ◌-◌, ◌<◌, ◌≤◌}
use native.Mathlib.Omega.{arith}
use native.Mathlib.Numerals.{sub-one}
use mathlib.Core.Path.{◌≡◌, refl, sym, ap, ◌∙◌, fun_ext}
use mathlib.Core.Bool.{Bool, true, false, ◌&&◌, ◌||◌, and-true, or-true}
use mathlib.Core.List.{List}
use lib.Dec.{eqb, ltb}
use borrow.Author.Tests.{ltb-true, lt-ltb, le-ltb, eqb-true, eqb-false, eq-eqb, ne_eqb}
use Rattle.rules.specs.steps.Tables.{put, lowest, some_below}
use Rattle.rules.specs.steps.Replies.{Content, unset, value}
use Rattle.rules.specs.steps.Figure.{version_shows}
use Rattle.rules.specs.history.History.{Deed, some_look, has_read, has_written}
use Rattle.rules.specs.history.Replay.{after}
use Rattle.rules.specs.demand.Judge.{copied}
use Rattle.rules.proofs.steps.Steps.{shows_nothing}
use Rattle.rules.proofs.steps.Tables.{by, same_test}
use Rattle.rules.proofs.steps.Searches.{some_only, some_next}
use Rattle.rules.proofs.history.Deeds.{EachRead, each_none, each_look, each_set}
use Rattle.ledger.specs.Entries.{Entry}
use Rattle.ledger.specs.Histories.{look_of, set_of, deeds_of}

-- A read is noted, and passes a test of cell and source.
unfoldable pub look_passes : (ℕ → ℕ → Bool) → ℕ → ℕ → Bool
look_passes test c zero = false
look_passes test c (suc source) = test c source

-- A source is noted.
unfoldable pub has_source : ℕ → Bool
has_source zero = false
has_source (suc source) = true

-- What a noted copy shows: what was written, or else the version read, whose source is one below what is noted.
unfoldable pub copy_shows : Bool → ℕ → ℕ → Content ℕ
copy_shows is_written noted v = if is_written then (value v) else (version_shows (noted - 1) v)

-- Where no source is noted, nothing is shown anyway.
source_shows : (noted v : ℕ) → (if has_source noted || false then (version_shows (noted - 1) v) else unset) ≡ version_shows (noted - 1) v
unfolding has_source version_shows
source_shows zero v = refl
source_shows (suc source) v = refl

-- A place other than c is below c just where it is below the next.
below_next : (c y : ℕ) → (y ≡ c → ⊥) → ltb y (suc c) ≡ ltb y c
below_next c y apart = same_test (ltb y (suc c)) (ltb y c)
    (λ e. lt-ltb y c (omega (arith, apart, ltb-true y (suc c) e)))
    (λ e. lt-ltb y (suc c) (omega (arith, ltb-true y c e)))

-- What one more cell settles, where it is noted, is in the end settled at the noted cells below m, and else as it began.
settled_below : {A : Type 0} (f : ℕ → ℕ → A) (noted : ℕ → Bool) (settled first : ℕ → A) → ((y : ℕ) → f 0 y ≡ first y)
    → ((c y : ℕ) → f (suc c) y ≡ (if eqb y c && noted c then (settled c) else (f c y)))
    → (m y : ℕ) → f m y ≡ (if ltb y m && noted y then (settled y) else (first y))
settled_below f noted settled first begins next zero y = rw (le-ltb y 0 (omega arith)) (begins y)
settled_below f noted settled first begins next (suc c) y = by (eqb y c)
    (λ e. let before : f c c ≡ first c = settled_below f noted settled first begins next c c ∙ rw (le-ltb c c (omega arith)) in
    let here : f (suc c) c ≡ (if noted c then (settled c) else (first c)) = next c c ∙ rw (eq-eqb c c refl, before) in
    rw (eqb-true y c e, lt-ltb c (suc c) (omega arith)) here)
    (λ e. let other : f (suc c) y ≡ f c y = next c y ∙ rw e in
    other ∙ settled_below f noted settled first begins next c y
    ∙ ap (λ (t : Bool). if t && noted y then (settled y) else (first y)) (sym (below_next c y (eqb-false y c e))))

-- ── One cell more ─────────────────────────────────────────────────────

-- The deeds noted of the cell c on top of others.
abbrev cell_deeds : Bool → ℕ → ℕ → ℕ → List (Deed ℕ) → List (Deed ℕ)
cell_deeds is_written source c v deeds = set_of is_written c v (look_of source c v deeds)

-- Some read passes: the one noted of c, or one below.
looks_next : (test : ℕ → ℕ → Bool) (is_written : Bool) (source c v : ℕ) (deeds : List (Deed ℕ))
    → some_look test (cell_deeds is_written source c v deeds) ≡ look_passes test c source || some_look test deeds
unfolding set_of look_of some_look look_passes
looks_next test true zero c v deeds = refl
looks_next test true (suc source) c v deeds = refl
looks_next test false zero c v deeds = refl
looks_next test false (suc source) c v deeds = refl

-- A cell is written: the one noted, or one below.
writes_next : (is_written : Bool) (source c v : ℕ) (deeds : List (Deed ℕ)) (y : ℕ)
    → has_written (cell_deeds is_written source c v deeds) y ≡ (if eqb y c && is_written then true else (has_written deeds y))
unfolding set_of look_of has_written
writes_next true zero c v deeds y = by (eqb y c) (λ e. rw e) (λ e. rw e)
writes_next true (suc source) c v deeds y = by (eqb y c) (λ e. rw e) (λ e. rw e)
writes_next false zero c v deeds y = by (eqb y c) (λ e. rw e) (λ e. rw e)
writes_next false (suc source) c v deeds y = by (eqb y c) (λ e. rw e) (λ e. rw e)

-- A copy shows what is noted of c, or what it shows below.
copies_next : (is_written : Bool) (source c v : ℕ) (deeds : List (Deed ℕ)) (y : ℕ)
    → copied (cell_deeds is_written source c v deeds) y
    ≡ (if eqb y c && (has_source source || is_written) then (copy_shows is_written source v) else (copied deeds y))
unfolding set_of look_of copied put has_source copy_shows
copies_next true zero c v deeds y = by (eqb y c) (λ e. rw e) (λ e. rw e)
copies_next true (suc source) c v deeds y = by (eqb y c) (λ e. rw e) (λ e. rw e)
copies_next false zero c v deeds y = by (eqb y c) (λ e. rw e) (λ e. rw e)
copies_next false (suc source) c v deeds y = by (eqb y c) (λ e. rw (e, sub-one)) (λ e. rw e)

-- What is left on a table is the write noted, or what was left below.
leaves_next : (table : ℕ → Content ℕ) (is_written : Bool) (source c v : ℕ) (deeds : List (Deed ℕ)) (y : ℕ)
    → after (cell_deeds is_written source c v deeds) table y ≡ (if eqb y c && is_written then (value v) else (after deeds table y))
unfolding set_of look_of after put
leaves_next table true zero c v deeds y = by (eqb y c) (λ e. rw e) (λ e. rw e)
leaves_next table true (suc source) c v deeds y = by (eqb y c) (λ e. rw e) (λ e. rw e)
leaves_next table false zero c v deeds y = by (eqb y c) (λ e. rw e) (λ e. rw e)
leaves_next table false (suc source) c v deeds y = by (eqb y c) (λ e. rw e) (λ e. rw e)

-- What holds of each read, and of every one of c, holds of each read with c's noted.
reads_next : {Q : ℕ → ℕ → Content ℕ → Type 0} (is_written : Bool) (source c v : ℕ) (deeds : List (Deed ℕ))
    → ((k : ℕ) (shown : Content ℕ) → Q c k shown) → EachRead Q deeds → EachRead Q (cell_deeds is_written source c v deeds)
unfolding set_of look_of
reads_next true zero c v deeds here each = each_set c v deeds each
reads_next true (suc source) c v deeds here each = each_set c v _ (each_look c source _ deeds (here source _) each)
reads_next false zero c v deeds here each = each
reads_next false (suc source) c v deeds here each = each_look c source _ deeds (here source _) each

-- ── The read of one cell ──────────────────────────────────────────────

-- A test of one cell fails of another,
passes_other : (test : ℕ → ℕ → Bool) (y z source : ℕ) → (z ≡ y → ⊥)
    → look_passes (λ x k. eqb y x && test x k) z source ≡ false
unfolding look_passes
passes_other test y z zero apart = refl
passes_other test y z (suc source) apart = rw (ne_eqb y z (λ e. apart (sym e)))

-- and of that one is the test.
passes_here : (test : ℕ → ℕ → Bool) (y source : ℕ) → look_passes (λ x k. eqb y x && test x k) y source ≡ look_passes test y source
unfolding look_passes
passes_here test y zero = refl
passes_here test y (suc source) = rw (eq-eqb y y refl)

-- A test that always holds asks only whether a source is noted.
passes_all : (y source : ℕ) → look_passes (λ x k. true) y source ≡ has_source source
unfolding look_passes has_source
passes_all y zero = refl
passes_all y (suc source) = refl

-- Where something is noted, the test is of one below it,
passes_noted : (test : ℕ → ℕ → Bool) (y noted : ℕ) → (noted ≡ 0 → ⊥) → look_passes test y noted ≡ test y (noted - 1)
unfolding look_passes
passes_noted test y zero some = absurd (some refl)
passes_noted test y (suc source) some = rw sub-one

-- and there is a source.
source_noted : (noted : ℕ) → (noted ≡ 0 → ⊥) → has_source noted ≡ true
source_noted noted some = sym (passes_all 0 noted) ∙ passes_noted (λ x k. true) 0 noted some

-- ── All cells ─────────────────────────────────────────────────────────

module _ (e : Entry) where
  -- None but cells below m were read from the cells.
  pub reads_below : (m : ℕ) → EachRead (λ y source v. y < m) (deeds_of e m)
  unfolding deeds_of
  reads_below zero = each_none _
  reads_below (suc c) = reads_next (e.written c) (e.sources c) c (e.copies c) (deeds_of e c) (λ k shown. omega arith)
      (λ y source v sooner stands. omega (arith, reads_below c y source v sooner stands))

  -- Some read from the cells passes a test just where a noted one does.
  pub looks_at : (test : ℕ → ℕ → Bool) (m : ℕ) → some_look test (deeds_of e m) ≡ some_below m (λ c. look_passes test c (e.sources c))
  unfolding deeds_of
  looks_at test zero = unfold some_look some_below lowest in refl
  looks_at test (suc c) = looks_next test (e.written c) (e.sources c) c (e.copies c) (deeds_of e c)
      ∙ ap (λ rest. look_passes test c (e.sources c) || rest) (looks_at test c)
      ∙ sym (some_next c (λ y. look_passes test y (e.sources y)))

  -- The cells written are the noted ones below m.
  pub writes_at : (m y : ℕ) → has_written (deeds_of e m) y ≡ (if ltb y m && e.written y then true else false)
  unfolding deeds_of
  writes_at = settled_below (λ m. has_written (deeds_of e m)) e.written (λ _. true) (λ _. false) (λ y. unfold has_written in refl)
      (λ c y. writes_next (e.written c) (e.sources c) c (e.copies c) (deeds_of e c) y)

  -- The copies show what is noted below m, and else nothing.
  pub copies_at : (m y : ℕ) → copied (deeds_of e m) y
      ≡ (if ltb y m && (has_source (e.sources y) || e.written y) then (copy_shows (e.written y) (e.sources y) (e.copies y)) else unset)
  unfolding deeds_of
  copies_at = settled_below (λ m. copied (deeds_of e m)) (λ c. has_source (e.sources c) || e.written c)
      (λ c. copy_shows (e.written c) (e.sources c) (e.copies c)) (λ _. unset) (λ y. unfold copied in refl)
      (λ c y. copies_next (e.written c) (e.sources c) c (e.copies c) (deeds_of e c) y)

  -- What is left on a table is the copy at the written cells below m.
  pub leaves_at : (table : ℕ → Content ℕ) (m y : ℕ)
      → after (deeds_of e m) table y ≡ (if ltb y m && e.written y then (value (e.copies y)) else (table y))
  unfolding deeds_of
  leaves_at table = settled_below (λ m. after (deeds_of e m) table) e.written (λ c. value (e.copies c)) table (λ y. unfold after in refl)
      (λ c y. leaves_next table (e.written c) (e.sources c) c (e.copies c) (deeds_of e c) y)

  -- A read of a cell below m passes a test just where the noted one does.
  pub look_at : (test : ℕ → ℕ → Bool) (m y : ℕ) → y < m
      → some_look (λ z source. eqb y z && test z source) (deeds_of e m) ≡ look_passes test y (e.sources y)
  look_at test m y inside =
      looks_at (λ z source. eqb y z && test z source) m
      ∙ some_only m _ y inside (λ z apart. passes_other test y z (e.sources z) apart) ∙ passes_here test y (e.sources y)

  -- Where none is noted no read passes,
  pub look_none : (test : ℕ → ℕ → Bool) (m y : ℕ) {noted : ℕ} → y < m → noted ≡ e.sources y → noted ≡ 0
      → some_look (λ z source. eqb y z && test z source) (deeds_of e m) ≡ false
  unfolding look_passes
  look_none test m y inside told none = look_at test m y inside ∙ rw (← told, none)

  -- and where one is, the test is of the source one below.
  pub look_noted : (test : ℕ → ℕ → Bool) (m y : ℕ) {noted : ℕ} → y < m → noted ≡ e.sources y → (noted ≡ 0 → ⊥)
      → some_look (λ z source. eqb y z && test z source) (deeds_of e m) ≡ test y (noted - 1)
  look_noted test m y inside told some = look_at test m y inside ∙ rw (← told) (passes_noted test y _ some)

  -- A cell below m was read from the cells just where its source is noted.
  pub reads_at : (m x : ℕ) → x < m → has_read (deeds_of e m) x ≡ has_source (e.sources x)
  unfolding has_read
  reads_at m x inside =
      ap (λ test. some_look test (deeds_of e m)) (fun_ext (λ z. fun_ext (λ source. sym (and-true (eqb x z)))))
      ∙ look_at (λ z source. true) m x inside ∙ passes_all x (e.sources x)

  -- A cell below m was written just where that is noted.
  pub written_at_lem : (m x : ℕ) → x < m → has_written (deeds_of e m) x ≡ e.written x
  written_at_lem m x inside = writes_at m x ∙ rw (lt-ltb x m inside) (by (e.written x) (λ t. rw t) (λ t. rw t))

  -- A cell of which no source is noted has been read or written just where a write is noted,
  pub copy_none : (m x : ℕ) {noted : ℕ} → x < m → noted ≡ e.sources x → noted ≡ 0
      → has_read (deeds_of e m) x || has_written (deeds_of e m) x ≡ e.written x
  unfolding has_source
  copy_none m x inside told none = rw (reads_at m x inside, ← told, none) (written_at_lem m x inside)

  -- and one with a source has been.
  pub copy_noted : (m x : ℕ) {noted : ℕ} → x < m → noted ≡ e.sources x → (noted ≡ 0 → ⊥)
      → has_read (deeds_of e m) x || has_written (deeds_of e m) x ≡ true
  copy_noted m x inside told some = rw (reads_at m x inside, ← told, source_noted _ some)

  -- The copy of a cell that was written shows the value,
  pub shown_written : (m x : ℕ) → x < m → e.written x ≡ true → copied (deeds_of e m) x ≡ value (e.copies x)
  unfolding copy_shows
  shown_written m x inside written = copies_at m x ∙ rw (lt-ltb x m inside, written, or-true (has_source (e.sources x)))

  -- and that of one that was not the version of its source.
  pub shown_read : (m x : ℕ) {noted : ℕ} → x < m → e.written x ≡ false → noted ≡ e.sources x
      → copied (deeds_of e m) x ≡ version_shows (noted - 1) (e.copies x)
  unfolding copy_shows
  shown_read m x inside unwritten told =
      copies_at m x ∙ rw (lt-ltb x m inside, unwritten, told) (source_shows (e.sources x) (e.copies x))

  -- that of the opening nothing.
  pub shown_opening : (m x : ℕ) → x < m → e.written x ≡ false → e.sources x ≤ 1 → unset ≡ copied (deeds_of e m) x
  shown_opening m x inside unwritten first = sym (shown_read m x inside unwritten refl ∙ shows_nothing _ _ (omega arith))
