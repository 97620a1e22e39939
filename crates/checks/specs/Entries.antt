-- A CODE SHEET AS A TABLE: for each of the 256 step codes an entry of one byte, which gives the number of the kind that the code stands for
-- and the cell that it names. It is said of any code sheet.
use Rattle.std.specs.Prelude.{ℕ, zero, suc, ◌+◌, ◌*◌, ◌/◌, ◌%◌, List, [], ◌∷◌, eqb, if◌then◌else◌}
use Rattle.rules.specs.steps.Codes.{begin, try, give_up, read, write, Kind, known, unknown, Sheet}

-- The number of a kind.
abbrev pub number_of : Kind → ℕ
number_of unknown = 0
number_of (known begin) = 1
number_of (known try) = 2
number_of (known give_up) = 3
number_of (known (read x)) = 4
number_of (known (write x)) = 5

-- The cell that a kind names; 0 where it names none.
abbrev pub cell_named : Kind → ℕ
cell_named unknown = 0
cell_named (known begin) = 0
cell_named (known try) = 0
cell_named (known give_up) = 0
cell_named (known (read x)) = x
cell_named (known (write x)) = x

-- The entry of a kind: its number, and the cell that it names.
abbrev pub entry_of : Kind → ℕ
entry_of kind = 32 * number_of kind + cell_named kind

-- The entries of so many codes of a sheet, from a code on.
unfoldable pub entries_from : Sheet → ℕ → ℕ → List ℕ
entries_from sheet zero code = []
entries_from sheet (suc count) code = entry_of (sheet code) ∷ entries_from sheet count (suc code)

-- The table of a sheet: the entries of all its codes. A code above 255 is outside of it.
abbrev pub table_of : Sheet → List ℕ
table_of sheet = entries_from sheet 256 0

-- The kind of a number, with a cell. A number of no kind is unknown.
unfoldable pub numbered : ℕ → ℕ → Kind
numbered number cell =
    if eqb number 1 then (known begin)
    else (if eqb number 2 then (known try)
    else (if eqb number 3 then (known give_up)
    else (if eqb number 4 then (known (read cell))
    else (if eqb number 5 then (known (write cell)) else unknown))))

-- What an entry says.
abbrev pub entry_says : ℕ → Kind
entry_says entry = numbered (entry / 32) (entry % 32)
