-- What a register holds, as tables over any kind of value W: cells and handlers, a vector of numbers as a table of numbers, a set
-- of cells as a table of yes and no.
use Rattle.std.specs.Prelude.{ℕ, Bool, false, not, eqb}
use Rattle.rules.specs.steps.Tables.{put}
use Rattle.rules.specs.steps.Codes.{Sheet}

-- What the rules are taken over: the value that an unwritten cell and a cleared copy hold, the number of cells, and the code sheet.
pub record Setting (W : Type 0) : Type 0 where
  pub empty : W
  pub cell_count : ℕ
  pub sheet : Sheet

-- The rules over numbers, of m cells under a sheet: an unwritten cell and a cleared copy hold 0.
abbrev pub numbers_under : Sheet → ℕ → Setting ℕ
numbers_under sheet m = record { empty = 0; cell_count = m; sheet = sheet }

-- A cell: its value, and its dependency numbers; the one for itself is its own number.
pub record Cell (W : Type 0) : Type 0 where
  pub value : W
  pub numbers : ℕ → ℕ

-- A handler: its phase (0 idle, 1 open), the transaction's read set and written set, the numbers of the handler, the
-- numbers of the transaction, and the local copies.
pub record Handler (W : Type 0) : Type 0 where
  pub phase : ℕ
  pub read_set : ℕ → Bool
  pub written_set : ℕ → Bool
  pub numbers : ℕ → ℕ
  pub transaction : ℕ → ℕ
  pub copies : ℕ → W

-- A transaction of the handler is open.
abbrev pub has_open : {W : Type 0} → Handler W → Bool
has_open h = not (eqb h.phase 0)

-- A register: cells and handlers.
pub record Register (W : Type 0) : Type 0 where
  pub cells : ℕ → Cell W
  pub handlers : ℕ → Handler W

-- The register with another handler at place i.
unfoldable pub with_handler : {W : Type 0} → Register W → ℕ → Handler W → Register W
with_handler r i h = record { cells = r.cells; handlers = put r.handlers i h }

-- No cell: the empty set.
abbrev pub no_cells : ℕ → Bool
no_cells c = false

-- All numbers 0.
abbrev pub zeros : ℕ → ℕ
zeros c = 0

module _ {W : Type 0} (S : Setting W) where
  -- A handler between transactions: phase, sets, the transaction's numbers and the copies are 0.
  unfoldable pub idle : (ℕ → ℕ) → Handler W
  idle numbers = record {
    phase = 0;
    read_set = no_cells;
    written_set = no_cells;
    numbers = numbers;
    transaction = zeros;
    copies = λ _. S.empty;
  }

  -- A cell never written.
  unfoldable pub blank : Cell W
  blank = record { value = S.empty; numbers = zeros }

  -- A fresh register: all values, numbers, phases, sets and copies are 0.
  unfoldable pub fresh : Register W
  fresh = record { cells = λ _. blank; handlers = λ _. idle zeros }
