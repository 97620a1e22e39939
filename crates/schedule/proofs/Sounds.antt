-- The test of a table and of a file answers exactly the proposition, and each body of a sound table lies in the file.
use Rattle.std.proofs.Common.{ℕ, zero, suc, ◌≡◌, ◌+◌, ◌-◌, ◌≤◌, ◌<◌, true, false, List, ◌↔◌, length, eqb, refl, sym, ap, ◌∙◌, arith, add-one, below_more}
use Rattle.std.proofs.Common.{length-take, length-drop}
use borrow.Author.Tests.{eqb-true, eq-eqb}
use Rattle.rules.proofs.steps.Given.{range_tested}
use Rattle.rules.proofs.steps.Tables.{and_iff, leb_iff}
use Rattle.layout.proofs.Tested.{every_iff}
use Rattle.limits.proofs.Ranges.{answers_no}
use Rattle.schedule.specs.Bytes.{entry_at, offset_of, length_of, entry_body}
use Rattle.schedule.specs.Sound.{due_at, SoundTable, SoundFile, is_placed, is_sound_table, is_sound_file}

-- The test of equality answers the equality.
eqb_iff : (a b : ℕ) → (eqb a b ≡ true) ↔ (a ≡ b)
eqb_iff a b = (eqb-true a b, eq-eqb a b)

-- ── The tests ─────────────────────────────────────────────────────────

-- The test of a table answers whether it is sound.
pub table_tested : (file : List ℕ) (start entries : ℕ) → (is_sound_table file start entries ≡ true) ↔ SoundTable file start entries
unfolding is_sound_table is_placed
table_tested file start entries = (to, from)
  where
    to : is_sound_table file start entries ≡ true → SoundTable file start entries
    to e =
        let (whole, (placed, ends)) = simp (and_iff, leb_iff, every_iff, eqb_iff) at e in
        record { whole = whole; placed = placed; ends = ends }

    from : SoundTable file start entries → is_sound_table file start entries ≡ true
    from sound = simp (and_iff, leb_iff, every_iff, eqb_iff) (sound.whole, (sound.placed, sound.ends))

-- The test of a file answers whether it is sound.
pub file_tested : (file : List ℕ) → (is_sound_file file ≡ true) ↔ SoundFile file
unfolding is_sound_file
file_tested file = (to, from)
  where
    to : is_sound_file file ≡ true → SoundFile file
    to e =
        let (short, (range, table)) = simp (and_iff, leb_iff, range_tested, table_tested) at e in
        record { short = short; range = range; table = table }

    from : SoundFile file → is_sound_file file ≡ true
    from sound = simp (and_iff, leb_iff, range_tested, table_tested) (sound.short, (sound.range, sound.table))

-- A sound file is answered with yes,
pub sound_tested : (file : List ℕ) → SoundFile file → is_sound_file file ≡ true
sound_tested file = (file_tested file).1

-- and one that is not sound with no.
pub not_sound_file : {file : List ℕ} → (SoundFile file → ⊥) → false ≡ is_sound_file file
not_sound_file out = answers_no _ (λ e. out ((file_tested _).0 e))

-- ── Bodies one after another ──────────────────────────────────────────

-- After body k the next begins where it ends.
due_next : (file : List ℕ) (start entries k : ℕ)
    → due_at file start entries (k + 1) ≡ offset_of file start k + length_of file start k
unfolding due_at
due_next file start entries k = rw add-one

module _ {file : List ℕ} {start entries : ℕ} (sound : SoundTable file start entries) where
  -- Where a body has to begin is no place beyond the file: so many bodies come after it.
  due_inside : (count k : ℕ) → k + count ≡ entries → due_at file start entries k ≤ length file
  unfolding due_at
  due_inside zero k e =
      let last : k ≡ entries = omega arith in
      omega (arith, ap (due_at file start entries) last, sound.ends)
  due_inside (suc count) k e = omega (arith, sound.placed k (omega arith), due_inside count (suc k) (omega arith))

  -- A body lies in the file.
  pub body_inside : (k : ℕ) → k < entries → offset_of file start k + length_of file start k ≤ length file
  body_inside k h =
      omega (arith, due_next file start entries k, due_inside (entries - (k + 1)) (k + 1) (omega arith))

-- The first bodies of a table that lies in the file begin where they have to, and the next is due somewhere.
pub record Passed (file : List ℕ) (start entries count due : ℕ) : Type 0 where
  pub whole : entry_at start entries ≤ length file
  pub some : count ≤ entries
  pub next : due ≡ due_at file start entries count
  pub placed : (k : ℕ) → k < count → offset_of file start k ≡ due_at file start entries k

-- Before the first body the next is due directly after the table.
pub passed_none : (file : List ℕ) (start entries : ℕ) → entry_at start entries ≤ length file
    → Passed file start entries 0 (entry_at start entries)
unfolding due_at
passed_none file start entries whole =
    record { whole = whole; some = omega arith; next = refl; placed = λ k below. absurd (omega arith) }

module _ {file : List ℕ} {start entries count due : ℕ} (passed : Passed file start entries count due) where
  module _ (more : count < entries) {offset : ℕ} (begins : offset ≡ offset_of file start count) where
    -- A body that begins elsewhere than it is due makes the table unsound.
    pub passed_stops : (offset ≡ due → ⊥) → ¬ SoundTable file start entries
    passed_stops elsewhere sound = elsewhere (begins ∙ sound.placed count more ∙ sym passed.next)

    -- Behind one that begins there the next is due where it ends.
    pub passed_more : {long : ℕ} → offset ≡ due → long ≡ length_of file start count → Passed file start entries (count + 1) (offset + long)
    passed_more there lasts = record {
      whole = passed.whole;
      some = omega arith;
      next = omega (arith, due_next file start entries count);
      placed = below_more _ _ passed.placed (sym begins ∙ there ∙ passed.next);
    }

  module _ (all : entries ≤ count) where
    -- Where all are passed, the table is sound if the next would begin at the file's end,
    pub passed_all : due ≡ length file → SoundTable file start entries
    passed_all ends =
        let every : count ≡ entries = omega (arith, passed.some) in
        record { whole = passed.whole; placed = rw every at passed.placed; ends = rw every at (sym passed.next) ∙ ends }

    -- and else it is not.
    pub passed_astray : (due ≡ length file → ⊥) → ¬ SoundTable file start entries
    passed_astray astray sound =
        let every : count ≡ entries = omega (arith, passed.some) in
        astray (rw every at passed.next ∙ sound.ends)

-- No body is longer than the file.
pub body_short : (file : List ℕ) (start k : ℕ) → length (entry_body file start k) ≤ length file
body_short file start k = simp (length-take, length-drop) (omega arith)
