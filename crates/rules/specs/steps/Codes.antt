-- Step codes, and the sheet that says what each stands for. Today there is one sheet, by ranges: 0 begin, 1 try to commit, 2 give
-- up, 32 to 63 read cell (code − 32), 64 to 95 write cell (code − 64); all others are unknown.
use Rattle.std.specs.Prelude.{ℕ, ◌-◌, Bool, ◌&&◌, eqb, leb, if◌then◌else◌}

-- The five steps.
pub data Step : Type 0 where
  begin try give_up : Step
  read write : ℕ → Step

-- What a step code stands for.
pub data Kind : Type 0 where
  known : Step → Kind
  unknown : Kind

-- A code sheet: what each step code stands for. The rules hold for every sheet.
abbrev pub Sheet : Type 0
Sheet = ℕ → Kind

-- The code lies in the range from the first to the last.
abbrev pub within : ℕ → ℕ → ℕ → Bool
within first last code = leb first code && leb code last

-- The plain sheet, for every number.
unfoldable pub plain_sheet : Sheet
plain_sheet code =
    if eqb code 0 then (known begin)
    else (if eqb code 1 then (known try)
    else (if eqb code 2 then (known give_up)
    else (if within 32 63 code then (known (read (code - 32)))
    else (if within 64 95 code then (known (write (code - 64))) else unknown))))
