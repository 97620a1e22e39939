-- The cases on tables: the rows that open a register, played by the rules alone. The claim of all rows is that of the crate
-- `cases`, over words; this one stands beside the rules, so that a wrong edit of them is refused here.
use Prim.Native.Nat.{ℕ, zero, suc}
use mathlib.Core.Path.{◌≡◌, refl}
use mathlib.Core.Bool.{true}
use mathlib.Core.List.{List, [], ◌∷◌, ◌++◌, map}
use Rattle.rules.specs.steps.Tables.{put, or_else, lowest, some_below}
use Rattle.rules.specs.steps.Codes.{plain_sheet}
use Rattle.rules.specs.steps.Replies.{Numbers, reply_numbers}
use Rattle.rules.specs.steps.Register.{numbers_under, Register, with_handler, idle, blank, fresh}
use Rattle.rules.specs.steps.Checks.{first_hit, step_checks}
use Rattle.rules.specs.steps.Figure.{joined, taken, wrote, version_shows, shown, stamped, stored, begun, torn_cell, overtaken_cell, spent_cell}
use Rattle.rules.specs.steps.Figure.{aborting, committing, unless_aborted, read_checks, try_checks, first_read, reading, trying, step}
use Rattle.rules.specs.steps.Turn.{step_refusal, turned, turn}
use Rattle.rules.specs.demand.Cases.{CaseStep, CaseStart, opened, given, CaseEnd, register, loose, Case, cases}

-- A row that opens a register of m cells and n handlers and ends with one.
pub record Row : Type 0 where
  pub m : ℕ
  pub n : ℕ
  pub lines : List CaseStep
  pub cells : List (List ℕ)

-- The row of a case, if it is such a one.
pub row_of : List CaseStep → CaseStart → CaseEnd → List Row
row_of lines (opened m n long reply) (register cells handlers beyond) = record { m = m; n = n; lines = lines; cells = cells } ∷ []
row_of lines (opened m n long reply) (loose words) = []
row_of lines (given words) (register cells handlers beyond) = []
row_of lines (given words) (loose others) = []

-- The rows of a list of cases.
pub rows_of : List Case → List Row
rows_of [] = []
rows_of (c ∷ rest) = row_of c.lines c.start c.end ++ rows_of rest

-- Replies, and the cells at the end.
pub record Played : Type 0 where
  pub replies : List Numbers
  pub cells : List (List ℕ)

-- The first k entries of a table, in order.
entries : {A : Type 0} → ℕ → (ℕ → A) → List A
entries zero table = []
entries (suc k) table = table 0 ∷ entries k (λ j. table (suc j))

-- A register's cells, each its value and its numbers.
cells_in : ℕ → Register ℕ → List (List ℕ)
cells_in m r = entries m (λ c. (r.cells c).value ∷ entries m (r.cells c).numbers)

-- The lines of a row, one after another, by the rules.
play : ℕ → ℕ → Register ℕ → List CaseStep → Played
play m n r [] = record { replies = []; cells = cells_in m r }
play m n r (l ∷ lines) =
    let t = turn (numbers_under plain_sheet m) n true r l.handler l.code l.value in
    let rest = play m n t.after lines in
    record { replies = reply_numbers t.reply ∷ rest.replies; cells = rest.cells }

-- What the rules make of a row.
pub made : Row → Played
made row = play row.m row.n (fresh (numbers_under plain_sheet row.m)) row.lines

-- What a row says.
pub said : Row → Played
said row = record { replies = map (λ l. l.reply) row.lines; cells = row.cells }

-- The rules make of each row what it says.
pub on_tables : map made (rows_of cases) ≡ map said (rows_of cases)
unfolding made said play cells_in entries row_of rows_of cases
    put or_else lowest some_below plain_sheet
    with_handler idle blank fresh first_hit step_checks
    joined taken wrote version_shows shown stamped stored begun torn_cell overtaken_cell spent_cell aborting committing
    unless_aborted read_checks try_checks first_read reading trying step step_refusal turned turn
on_tables = refl
