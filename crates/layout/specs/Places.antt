-- Lengths and places of a register and of the judge's ledger. No other definition knows an offset, and in code no crate but `places`.
-- The register is as docs/RULES.md has it, "Words and lengths": word 0 is m and word 1 is n; then the cells, then the handlers.
-- Cells and handlers together are a register's body, and places are counted from its first word: registers that carry more words
-- behind m and n have the same body behind those.
use Rattle.std.specs.Prelude.{ℕ, ◌+◌, ◌*◌, List, get_or, drop}
use Rattle.limits.specs.Limits.{most_handlers, ledger_rows}
use Rattle.layout.specs.Rows.{part}

-- Word 0: m.
abbrev pub cells_of : List ℕ → ℕ
cells_of words = get_or words 0 0

-- Word 1: n.
abbrev pub handlers_of : List ℕ → ℕ
handlers_of words = get_or words 1 0

-- A cell: its value, then its m dependency numbers.
abbrev pub cell_long : ℕ → ℕ
cell_long m = 1 + m

-- A handler: phase, read set, written set, m numbers of the handler, m numbers of the transaction, m local copies.
abbrev pub handler_long : ℕ → ℕ
handler_long m = 3 + 3 * m

-- The body: m cells, then n handlers.
abbrev pub body_long : ℕ → ℕ → ℕ
body_long m n = m * cell_long m + n * handler_long m

-- The length of a register: 2 + m(m+1) + n(3+3m).
abbrev pub size : ℕ → ℕ → ℕ
size m n = 2 + body_long m n

-- The words behind m and n: the body, and what lies beyond the register.
abbrev pub body_of : List ℕ → List ℕ
body_of words = drop 2 words

-- Where cell c begins in the body.
abbrev pub cell_start : ℕ → ℕ → ℕ
cell_start m c = c * cell_long m

-- Where cell c's own number stands in the body.
abbrev pub own_at : ℕ → ℕ → ℕ
own_at m c = cell_start m c + (1 + c)

-- Where the block of handler i begins in the body.
abbrev pub handler_start : ℕ → ℕ → ℕ
handler_start m i = m * cell_long m + i * handler_long m

-- The words of cell c.
abbrev pub cell_part : ℕ → List ℕ → ℕ → List ℕ
cell_part m body c = part (cell_start m c) (cell_long m) body

-- The block of handler i.
abbrev pub handler_part : ℕ → List ℕ → ℕ → List ℕ
handler_part m body i = part (handler_start m i) (handler_long m) body

-- ── Inside a cell's words and a handler's block ───────────────────────

-- Where the handler's numbers begin in its block, behind phase, read set and written set.
abbrev pub handler_numbers_from : ℕ
handler_numbers_from = 3

-- Where the transaction's numbers begin.
abbrev pub transaction_from : ℕ → ℕ
transaction_from m = handler_numbers_from + m

-- Where the local copies begin.
abbrev pub copies_from : ℕ → ℕ
copies_from m = handler_numbers_from + 2 * m

-- A cell's value.
abbrev pub value_in : List ℕ → ℕ
value_in cell = get_or cell 0 0

-- A cell's dependency number for y.
abbrev pub number_in : List ℕ → ℕ → ℕ
number_in cell y = get_or cell (1 + y) 0

-- A handler's phase: 0 idle, 1 open.
abbrev pub phase_in : List ℕ → ℕ
phase_in block = get_or block 0 0

-- A transaction's read set.
abbrev pub read_set_in : List ℕ → ℕ
read_set_in block = get_or block 1 0

-- A transaction's written set.
abbrev pub written_set_in : List ℕ → ℕ
written_set_in block = get_or block 2 0

-- A number of the handler.
abbrev pub handler_number_in : List ℕ → ℕ → ℕ
handler_number_in block y = get_or block (handler_numbers_from + y) 0

-- A number of the transaction.
abbrev pub transaction_number_in : ℕ → List ℕ → ℕ → ℕ
transaction_number_in m block y = get_or block (transaction_from m + y) 0

-- A local copy.
abbrev pub copy_in : ℕ → List ℕ → ℕ → ℕ
copy_in m block y = get_or block (copies_from m + y) 0

-- ── The judge's ledger ────────────────────────────────────────────────
-- Rows of 66 words. Row 0 is the head, with m, n and how many commits are noted; then comes one row for each of 16 handlers, and one
-- for each of 64 commits. A row holds its head, its written cells as bits, 32 sources and 32 copies.

-- The words of a row.
abbrev pub row_long : ℕ
row_long = 66

-- How many words the judge needs.
abbrev pub ledger_long : ℕ
ledger_long = ledger_rows * row_long

-- The row of handler i.
abbrev pub handler_row : ℕ → ℕ
handler_row i = 1 + i

-- The row of the commit at a place; commits are counted from 1.
abbrev pub commit_row : ℕ → ℕ
commit_row place = most_handlers + place

-- Word 2, behind m and n: how many commits are noted.
abbrev pub commits_noted : List ℕ → ℕ
commits_noted words = get_or words 2 0

-- Where a row begins, with its head.
abbrev pub row_start : ℕ → ℕ
row_start row = row * row_long

-- Where a row has its written cells.
abbrev pub written_at : ℕ → ℕ
written_at row = row_start row + 1

-- Where a row has its source of cell c.
abbrev pub source_at : ℕ → ℕ → ℕ
source_at row c = row_start row + (2 + c)

-- Where a row has its copy of cell c.
abbrev pub copy_at : ℕ → ℕ → ℕ
copy_at row c = row_start row + (34 + c)
