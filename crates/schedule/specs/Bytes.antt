-- The bytes of a file: numbers big-endian, and a table of contents wherever it starts and however many entries it has.
use Rattle.std.specs.Prelude.{ℕ, ◌+◌, ◌*◌, List, get_or}
use Rattle.layout.specs.Rows.{part}
use Rattle.schedule.specs.declared.Part.{Part}

-- The byte at a place; 0 past the end.
abbrev pub byte_at : List ℕ → ℕ → ℕ
byte_at bytes place = get_or bytes place 0

-- The 16-bit number at a place.
unfoldable pub short_at : List ℕ → ℕ → ℕ
short_at bytes place = 256 * byte_at bytes place + byte_at bytes (place + 1)

-- The 32-bit number at a place.
unfoldable pub long_at : List ℕ → ℕ → ℕ
long_at bytes place = 65536 * short_at bytes place + short_at bytes (place + 2)

-- Where entry k of a table lies: each entry is a 16-bit offset and a 16-bit length.
abbrev pub entry_at : ℕ → ℕ → ℕ
entry_at start k = start + 4 * k

-- The offset of entry k of the table that starts there.
abbrev pub offset_of : List ℕ → ℕ → ℕ → ℕ
offset_of file start k = short_at file (entry_at start k)

-- The length of entry k.
abbrev pub length_of : List ℕ → ℕ → ℕ → ℕ
length_of file start k = short_at file (entry_at start k + 2)

-- Where the body of entry k lies: from the entry's offset on, of the entry's length.
abbrev pub entry_part : List ℕ → ℕ → ℕ → Part
entry_part file start k = record { offset = offset_of file start k; length = length_of file start k }

-- The bytes of a file that lie there.
abbrev pub bytes_at : List ℕ → Part → List ℕ
bytes_at file place = part place.offset place.length file

-- The body of entry k, a part of the file.
abbrev pub entry_body : List ℕ → ℕ → ℕ → List ℕ
entry_body file start k = bytes_at file (entry_part file start k)
