-- THE PAGE OF STEP CODES, as the fitters' manual prints it: a heading, and a row for each of the 256 codes with the step that it stands for
-- and the cell that it names. It is said of any code sheet.
use Rattle.std.specs.Prelude.{ℕ, List, [], ◌∷◌, ◌++◌, ltb, if◌then◌else◌}
use Rattle.rules.specs.steps.Codes.{begin, try, give_up, read, write, Kind, known, unknown, Sheet}
use Rattle.checks.specs.Entries.{cell_named}
use Rattle.text.specs.Bytes.{ascii, newline, written, decimal, in_turn}

-- How many codes a byte can be, each of which has its row.
abbrev pub code_count : ℕ
code_count = 256

-- The step that a code stands for, with spaces behind it up to the end of its column.
abbrev pub step_text : Kind → List ℕ
step_text (known begin) = ascii " begin   "
step_text (known try) = ascii " try     "
step_text (known give_up) = ascii " give up "
step_text (known (read x)) = ascii " read    "
step_text (known (write x)) = ascii " write   "
step_text unknown = ascii " unknown "

-- The bar in front of a number, and spaces behind it, so that the last digits stand below each other.
unfoldable pub margin_text : ℕ → List ℕ
margin_text n = if ltb n 10 then (ascii "|    ") else (if ltb n 100 then (ascii "|   ") else (ascii "|  "))

-- A number in its column, between bars.
abbrev pub number_text : ℕ → List ℕ
number_text n = margin_text n ++ decimal n ++ ascii " |"

-- The row of a code: its number, its step and its cell.
abbrev pub row_text : ℕ → Kind → List ℕ
row_text code kind = number_text code ++ step_text kind ++ number_text (cell_named kind) ++ newline

-- The heading: what the page has, and the heads of its columns.
unfoldable pub head_text : List ℕ
head_text = written (
    "# Step codes"
    ∷ ""
    ∷ "What each of the 256 step codes stands for, and the cell that a"
    ∷ "read or a write names; with every other code the cell is 0. An"
    ∷ "unknown code is refused with 15, and so is a number above 255."
    ∷ ""
    ∷ "| code | step    | cell |"
    ∷ "|-----:|---------|-----:|"
    ∷ [])

-- The page of a code sheet.
abbrev pub codes_page : Sheet → List ℕ
codes_page sheet = head_text ++ in_turn code_count (λ code. row_text code (sheet code))

-- The bytes of the heading.
abbrev pub head_bytes : ℕ
head_bytes = 257

-- The bytes of a row whose numbers have at most three digits.
abbrev pub row_bytes : ℕ
row_bytes = 26

-- The bytes of the heading and of so many rows.
abbrev pub page_bytes : ℕ
page_bytes = 6913
