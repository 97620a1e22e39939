-- A table read entry by entry, four bytes after four: what each says is what the definitions read off the file.
use Rattle.std.proofs.Common.{ℕ, ◌≡◌, ◌+◌, ◌-◌, ◌*◌, ◌<◌, List, ◌++◌, length, take, drop, sym, ap, ◌∙◌, arith}
use Rattle.std.proofs.Common.{length-append, length-drop, length-take, drop-drop, get_or-drop, get_or-take}
use Rattle.std.proofs.Math.Seq.{drop-append_seam}
use Rattle.std.proofs.lemmas.List.{get_or_append_left}
use Rattle.schedule.specs.Bytes.{byte_at, short_at, entry_at, offset_of, length_of}

-- The bytes of a table,
abbrev pub table_bytes : List ℕ → ℕ → ℕ → List ℕ
table_bytes file start entries = take (entry_at start entries - start) (drop start file)

-- and those from entry k on.
abbrev pub entries_from : List ℕ → ℕ → ℕ → ℕ → List ℕ
entries_from file start entries k = drop (4 * k) (table_bytes file start entries)

-- The four bytes of entry k, and the rest behind them.
pub record EntryRead (file : List ℕ) (start entries k : ℕ) (entry rest : List ℕ) : Type 0 where
  pub four : length entry ≡ 4
  pub front : entries_from file start entries k ≡ entry ++ rest

module _ {file : List ℕ} {start entries k : ℕ} {entry rest : List ℕ} (read : EntryRead file start entries k entry rest) where
  -- There is such an entry.
  pub entry_there : k < entries
  entry_there = omega (arith, read.four, simp (length-drop, length-take, length-append) at (ap length read.front))

  -- Its bytes are the file's from its place on.
  byte_there : (j place : ℕ) → j < 4 → place ≡ entry_at start k + j → byte_at entry j ≡ byte_at file place
  byte_there j place below there =
      let inside : 4 * k + j < entry_at start entries - start = omega (arith, entry_there) in
      sym (get_or_append_left entry rest 0 j (omega (arith, read.four))) ∙ ap (λ bytes. byte_at bytes j) (sym read.front)
      ∙ get_or-drop (4 * k) _ j 0 ∙ get_or-take _ (drop start file) (4 * k + j) 0 inside
      ∙ get_or-drop start file (4 * k + j) 0 ∙ ap (byte_at file) (omega arith)

  -- The 16-bit number at a place of it.
  short_there : (j place : ℕ) → j < 3 → place ≡ entry_at start k + j → short_at entry j ≡ short_at file place
  unfolding short_at
  short_there j place below there =
      rw (byte_there j place (omega arith) there, byte_there (j + 1) (place + 1) (omega arith) (omega arith))

  -- The offset,
  pub entry_offset : short_at entry 0 ≡ offset_of file start k
  entry_offset = short_there 0 (entry_at start k) (omega arith) (omega arith)

  -- and the length.
  pub entry_length : short_at entry 2 ≡ length_of file start k
  entry_length = short_there 2 (entry_at start k + 2) (omega arith) (omega arith)

  -- What is left behind it.
  pub entries_left : rest ≡ entries_from file start entries (k + 1)
  entries_left =
      sym (drop-append_seam entry rest) ∙ rw (read.four, ← read.front)
      (drop-drop 4 (4 * k) _ ∙ ap (λ count. drop count (table_bytes file start entries)) (omega arith))
