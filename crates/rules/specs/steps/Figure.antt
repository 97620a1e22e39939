-- The five steps, after Figure 1 of PI 1923 and docs/RULES.md: begin, read, write, try as one step, and give up, which the figure has not.
use Rattle.std.specs.Prelude.{ℕ, ◌+◌, max, true, not, ◌&&◌, ◌||◌, List, [], ◌∷◌, eqb, ltb}
use Rattle.std.proofs.Math.Option.{Option, none, some}
use Rattle.rules.specs.steps.Tables.{if◌then◌else◌, put, lowest}
use Rattle.rules.specs.steps.Codes.{Step, begin, try, give_up, read, write}
use Rattle.rules.specs.steps.Replies.{Reason, torn, overtaken, spent, gave_up, Content, unset, value, Outcome, ok, shows, committed, aborted}
use Rattle.rules.specs.steps.Register.{Setting, Cell, Handler, Register, with_handler, no_cells, idle}
use Rattle.rules.specs.steps.Checks.{Check, ◌naming◌, first_hit}

-- What a step comes to, and the register that it leaves.
pub record Result (W : Type 0) : Type 0 where
  pub outcome : Outcome W
  pub after : Register W

module _ {W : Type 0} where
  -- Line 03: X joins the read set, and the transaction's number for X becomes X's own number.
  unfoldable pub joined : Handler W → ℕ → Cell W → Handler W
  joined h x c = record {
    phase = 1;
    read_set = put h.read_set x true;
    written_set = h.written_set;
    numbers = h.numbers;
    transaction = put h.transaction x (c.numbers x);
    copies = h.copies;
  }

  -- Line 05, and the copy of line 02: for every Y outside the read set the number becomes the larger of the two; the copy is
  -- X's value.
  unfoldable pub taken : Handler W → ℕ → Cell W → Handler W
  taken h x c = record {
    phase = 1;
    read_set = h.read_set;
    written_set = h.written_set;
    numbers = h.numbers;
    transaction = λ y. if h.read_set y then (h.transaction y) else (max (h.transaction y) (c.numbers y));
    copies = put h.copies x c.value;
  }

  -- Lines 08 and 09: the copy becomes the value, X joins the written set. X does not join the read set.
  unfoldable pub wrote : Handler W → ℕ → W → Handler W
  wrote h x v = record {
    phase = 1;
    read_set = h.read_set;
    written_set = put h.written_set x true;
    numbers = h.numbers;
    transaction = h.transaction;
    copies = put h.copies x v;
  }

  -- What a version of a number shows: the opening's, which has number 0, nothing.
  unfoldable pub version_shows : ℕ → W → Content W
  version_shows number v = if eqb number 0 then unset else (value v)

  -- What the cell X shows, by its own number.
  abbrev pub cell_shows : ℕ → Cell W → Content W
  cell_shows x c = version_shows (c.numbers x) c.value

  -- Line 07: what a read of X shows, once there is a local copy: its own write, or else the version that it holds.
  unfoldable pub shown : Handler W → ℕ → Content W
  shown h x = if h.written_set x then (value (h.copies x)) else (version_shows (h.transaction x) (h.copies x))

  -- Line 13: each written cell's transaction number becomes its own number plus 1.
  unfoldable pub stamped : Register W → Handler W → ℕ → ℕ
  stamped r h x = if h.written_set x then ((r.cells x).numbers x + 1) else (h.transaction x)

  -- Line 14: each written cell takes its copy and the whole transaction vector.
  unfoldable pub stored : Register W → Handler W → ℕ → Cell W
  stored r h x = if h.written_set x then (record { value = h.copies x; numbers = stamped r h }) else (r.cells x)

module _ {W : Type 0} (S : Setting W) where
  -- Begin: phase 1, both sets empty, the transaction's numbers become the handler's, copies 0.
  unfoldable pub begun : Handler W → Handler W
  begun h = record {
    phase = 1;
    read_set = no_cells;
    written_set = no_cells;
    numbers = h.numbers;
    transaction = h.numbers;
    copies = λ _. S.empty;
  }

  -- Line 04: the lowest cell Y of the read set with a transaction number below X's dependency number for Y, if there is one.
  unfoldable pub torn_cell : Handler W → Cell W → Option ℕ
  torn_cell h c = lowest S.cell_count (λ y. h.read_set y && ltb (h.transaction y) (c.numbers y))

  -- Lines 10 and 12: the lowest Z of the read set with a transaction number other than Z's own number, if there is one.
  unfoldable pub overtaken_cell : Register W → Handler W → Option ℕ
  overtaken_cell r h = lowest S.cell_count (λ z. h.read_set z && not (eqb (h.transaction z) ((r.cells z).numbers z)))

  -- Abort 3, after line 12's check: the lowest written cell with 65,535 as its own number, if there is one.
  unfoldable pub spent_cell : Register W → Handler W → Option ℕ
  spent_cell r h = lowest S.cell_count (λ z. h.written_set z && eqb ((r.cells z).numbers z) 65535)

  -- An abort leaves the cells and the handler's numbers as before.
  unfoldable pub aborting : Register W → ℕ → Handler W → Register W
  aborting r i h = with_handler r i (idle S h.numbers)

  -- Lines 13, 14 and 17: the written cells are stored, and the handler's numbers become the transaction's.
  unfoldable pub committing : Register W → ℕ → Handler W → Register W
  committing r i h = with_handler (record { cells = stored r h; handlers = r.handlers }) i (idle S (stamped r h))

  -- A transaction is ended with a reason, whoever wants it: a check, or its own handler.
  abbrev pub ended_with : Reason → Register W → ℕ → Handler W → Result W
  ended_with reason r i h = record { outcome = aborted reason; after = aborting r i h }

  -- A transaction goes on to a result unless a check aborts it.
  unfoldable pub unless_aborted : Register W → ℕ → Handler W → Option Reason → Result W → Result W
  unless_aborted r i h none result = result
  unless_aborted r i h (some reason) result = ended_with reason r i h

  -- The check of a first read, by a transaction that X has joined.
  unfoldable pub read_checks : Handler W → Cell W → List (Check Reason)
  read_checks h c = (torn naming torn_cell h c) ∷ []

  -- The checks of a try, in their order.
  unfoldable pub try_checks : Register W → Handler W → List (Check Reason)
  try_checks r h =
      (overtaken naming overtaken_cell r h) ∷
      (spent naming spent_cell r h) ∷ []

  -- The first read of X, whose cell is c.
  unfoldable pub first_read : Register W → ℕ → Handler W → ℕ → Cell W → Result W
  first_read r i h x c =
      let next = taken (joined h x c) x c in
      unless_aborted r i h (first_hit (read_checks (joined h x c) c)) (record { outcome = shows (shown next x); after = with_handler r i next })

  -- Read of X, X in either set: the local copy. Otherwise the first read.
  unfoldable pub reading : Register W → ℕ → Handler W → ℕ → Result W
  reading r i h x =
      if h.read_set x || h.written_set x then (record { outcome = shows (shown h x); after = r })
      else (first_read r i h x (r.cells x))

  -- Try.
  unfoldable pub trying : Register W → ℕ → Handler W → Result W
  trying r i h = unless_aborted r i h (first_hit (try_checks r h)) (record { outcome = committed; after = committing r i h })

  -- The step of handler i, with a value where it is a write.
  unfoldable pub step : Register W → ℕ → Step → W → Result W
  step r i begin v = record { outcome = ok; after = with_handler r i (begun (r.handlers i)) }
  step r i try v = trying r i (r.handlers i)
  step r i give_up v = ended_with gave_up r i (r.handlers i)
  step r i (read x) v = reading r i (r.handlers i) x
  step r i (write x) v = record { outcome = ok; after = with_handler r i (wrote (r.handlers i) x v) }
