-- The numbers of the rules (docs/RULES.md) and of our layouts that contracts cite; in code each is a constant of the same name.
use Rattle.std.specs.Prelude.{ℕ}

-- The most cells that a register has.
abbrev pub most_cells : ℕ
most_cells = 32

-- The most handlers that a register has.
abbrev pub most_handlers : ℕ
most_handlers = 16

-- The most that a dependency number can be.
abbrev pub most_number : ℕ
most_number = 65535

-- The most commits that the judge notes.
abbrev pub most_commits : ℕ
most_commits = 64

-- The most bytes that a schedule file has.
abbrev pub most_file_bytes : ℕ
most_file_bytes = 65535

-- The longest line of an order place, in bytes.
abbrev pub longest_line : ℕ
longest_line = 34

-- The most bytes that are printed of a file: a line for each of its bytes, and the header and each cell as two lines more.
abbrev pub most_printed : ℕ
most_printed = 2230434

-- The rows of the judge's ledger: its head, one for each handler, and one for each commit.
abbrev pub ledger_rows : ℕ
ledger_rows = 81

-- The counts of a handler in a duty sheet.
abbrev pub sheet_columns : ℕ
sheet_columns = 6

-- The words of a step in a row: handler, code and value.
abbrev pub step_width : ℕ
step_width = 3

-- The words of a step's report: handler, code, kind of reply, its value or number, and the cell that it names.
abbrev pub report_width : ℕ
report_width = 5
