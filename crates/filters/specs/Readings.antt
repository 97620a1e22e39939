-- What was read of a file, to its end or until a read failed.
use Rattle.std.specs.Prelude.{ℕ, Result, Ok, Err}
use Rattle.filters.specs.declared.CutShort.{CutShort}

-- How many bytes stand at the start of the buffer.
abbrev pub count_read : Result ℕ CutShort → ℕ
count_read (Ok count) = count
count_read (Err cut) = cut.count
