-- Which bytes are a schedule file, as a proposition in docs/SCHEDULE.md's words and as a test; proofs/Sounds.antt shows that the test
-- answers exactly the proposition.
use Rattle.std.specs.Prelude.{ℕ, zero, suc, ◌+◌, ◌≤◌, ◌<◌, ◌≡◌, Bool, ◌&&◌, List, length, eqb, leb}
use Rattle.rules.specs.steps.Checks.{in_range}
use Rattle.rules.specs.steps.Given.{InRange}
use Rattle.layout.specs.WellFormed.{every_below}
use Rattle.schedule.specs.Bytes.{byte_at, entry_at, offset_of, length_of, entry_body}

-- Byte 0 is n.
abbrev pub handlers_in : List ℕ → ℕ
handlers_in file = byte_at file 0

-- Byte 1 is m.
abbrev pub cells_in : List ℕ → ℕ
cells_in file = byte_at file 1

-- Then the table of contents,
abbrev pub table_start : ℕ
table_start = 2

-- of n + 1 entries.
abbrev pub entries_in : List ℕ → ℕ
entries_in file = handlers_in file + 1

-- Entries 0 to n − 1 are the scripts of handlers 0 to n − 1,
abbrev pub script_in : List ℕ → ℕ → List ℕ
script_in file handler = entry_body file table_start handler

-- the last is the order.
abbrev pub order_in : List ℕ → List ℕ
order_in file = entry_body file table_start (handlers_in file)

-- ── The proposition ───────────────────────────────────────────────────

-- Where body k has to begin: the first directly after the table, each next where the one before ends.
unfoldable pub due_at : List ℕ → ℕ → ℕ → ℕ → ℕ
due_at file start entries zero = entry_at start entries
due_at file start entries (suc k) = offset_of file start k + length_of file start k

-- A sound table, by where it starts and how many entries it has: it lies in the file, its bodies follow it in table order with
-- no gaps, an empty one too, and the last ends the file.
pub record SoundTable (file : List ℕ) (start entries : ℕ) : Type 0 where
  pub whole : entry_at start entries ≤ length file
  pub placed : (k : ℕ) → k < entries → offset_of file start k ≡ due_at file start entries k
  pub ends : due_at file start entries entries ≡ length file

-- A sound file: at most 65,535 bytes, n is 1 to 16, m is 1 to 32, and the table is sound.
pub record SoundFile (file : List ℕ) : Type 0 where
  pub short : length file ≤ 65535
  pub range : InRange (cells_in file) (handlers_in file)
  pub table : SoundTable file table_start (entries_in file)

-- ── The test ──────────────────────────────────────────────────────────

-- Body k begins where it has to.
unfoldable pub is_placed : List ℕ → ℕ → ℕ → ℕ → Bool
is_placed file start entries k = eqb (offset_of file start k) (due_at file start entries k)

-- The table is sound.
unfoldable pub is_sound_table : List ℕ → ℕ → ℕ → Bool
is_sound_table file start entries =
    leb (entry_at start entries) (length file)
    && (every_below entries (is_placed file start entries) && eqb (due_at file start entries entries) (length file))

-- The file is sound.
unfoldable pub is_sound_file : List ℕ → Bool
is_sound_file file =
    leb (length file) 65535
    && (in_range (cells_in file) (handlers_in file) && is_sound_table file table_start (entries_in file))
