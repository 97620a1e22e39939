-- Beyond its cells and its n handlers a register holds what a fresh one holds, and every step and every turn leaves it so.
-- Words have no room for anything beyond: a confined register is all in its words.
use Prim.Native.Nat.{ℕ, ◌<◌}
use mathlib.Core.Path.{refl}
use mathlib.Core.Bool.{Bool, true, false}
use Rattle.rules.specs.steps.Tables.{put}
use Rattle.rules.specs.steps.Codes.{Step}
use Rattle.rules.specs.steps.Register.{Setting, Cell, Handler, Register, with_handler, zeros, idle, blank, fresh}
use Rattle.rules.specs.steps.Given.{Within}
use Rattle.rules.specs.steps.Figure.{joined, taken, wrote, stamped, stored, begun, aborting, committing, step}
use Rattle.rules.specs.steps.Turn.{turn}
use Rattle.rules.proofs.steps.Tables.{by, put_each, SameFrom, put_beyond}
use Rattle.rules.proofs.steps.Ways.{Ways, step_keeps, turn_keeps}

-- A handler's sets, vectors and copies are empty beyond the setting's cells.
pub record ConfinedHandler {W : Type 0} (S : Setting W) (h : Handler W) : Type 0 where
  pub read_set : SameFrom S.cell_count false h.read_set
  pub written_set : SameFrom S.cell_count false h.written_set
  pub numbers : SameFrom S.cell_count 0 h.numbers
  pub transaction : SameFrom S.cell_count 0 h.transaction
  pub copies : SameFrom S.cell_count S.empty h.copies

-- Beyond the setting's cells and n handlers the register holds what a fresh one holds, and so does every vector, set and row of
-- copies in it.
pub record Confined {W : Type 0} (S : Setting W) (n : ℕ) (r : Register W) : Type 0 where
  pub cells : SameFrom S.cell_count (blank S) r.cells
  pub handlers : SameFrom n (idle S zeros) r.handlers
  pub cell : (c : ℕ) → SameFrom S.cell_count 0 (r.cells c).numbers
  pub handler : (i : ℕ) → ConfinedHandler S (r.handlers i)

module _ {W : Type 0} (S : Setting W) where
  -- A handler between transactions has no numbers but its own.
  pub idle_confined : (numbers : ℕ → ℕ) → SameFrom S.cell_count 0 numbers → ConfinedHandler S (idle S numbers)
  unfolding idle
  idle_confined numbers beyond = record {
    read_set = λ y _. refl;
    written_set = λ y _. refl;
    numbers = beyond;
    transaction = λ y _. refl;
    copies = λ y _. refl;
  }

  -- A first read of a cell below m takes the cell's numbers, which are 0 beyond.
  taken_confined : (h : Handler W) (x : ℕ) (c : Cell W) → x < S.cell_count → ConfinedHandler S h
      → SameFrom S.cell_count 0 c.numbers → ConfinedHandler S (taken (joined h x c) x c)
  unfolding taken joined
  taken_confined h x c inside own beyond = record {
    read_set = put_beyond true inside own.read_set;
    written_set = own.written_set;
    numbers = own.numbers;
    transaction = raised;
    copies = put_beyond c.value inside own.copies;
  }
    where
      joins : SameFrom S.cell_count 0 (put h.transaction x (c.numbers x))
      joins = put_beyond (c.numbers x) inside own.transaction

      raised : SameFrom S.cell_count 0 (taken (joined h x c) x c).transaction
      raised y l = by (put h.read_set x true y) (λ e. rw e (joins y l)) (λ e. rw (e, joins y l, beyond y l))

  -- No cell beyond m is in the written set, so that none is stamped.
  pub stamped_confined : (r : Register W) (h : Handler W) → ConfinedHandler S h → SameFrom S.cell_count 0 (stamped r h)
  unfolding stamped
  stamped_confined r h own y l = rw (own.written_set y l) (own.transaction y l)

module _ {W : Type 0} (S : Setting W) (n : ℕ) where
  -- A confined handler at a place below n.
  with_handler_confined : (r : Register W) (i : ℕ) (h : Handler W) → i < n → Confined S n r → ConfinedHandler S h
      → Confined S n (with_handler r i h)
  unfolding with_handler
  with_handler_confined r i h inside confined own = record {
    cells = confined.cells;
    handlers = put_beyond h inside confined.handlers;
    cell = confined.cell;
    handler = put_each (λ _ g. ConfinedHandler S g) r.handlers i h own (λ j _. confined.handler j);
  }

  -- A commit stores no cell beyond m, and leaves stamped numbers.
  stored_confined : (r : Register W) (h : Handler W) → Confined S n r → ConfinedHandler S h
      → Confined S n (record { cells = stored r h; handlers = r.handlers })
  unfolding stored
  stored_confined r h confined own = record {
    cells = λ c l. rw (own.written_set c l) (confined.cells c l);
    handlers = confined.handlers;
    cell = λ c. by (h.written_set c) (λ e. rw e (stamped_confined S r h own)) (λ e. rw e (confined.cell c));
    handler = confined.handler;
  }

  -- Each register that a step of a handler below n can leave is confined.
  ways : (r : Register W) → Confined S n r → (i : ℕ) → i < n → Ways S (Confined S n) r i
  unfolding begun wrote aborting committing
  ways r confined i inside = record {
    stays = confined;
    begins = leaves _ begins;
    writes = λ x l v. leaves _ (writes x l v);
    reads = λ x l _ _. leaves _ (taken_confined S handler x (r.cells x) l own (confined.cell x));
    aborts = leaves _ (idle_confined S _ own.numbers);
    commits = λ _ _. with_handler_confined _ i _ inside (stored_confined r handler confined own) commits;
  }
    where
      handler : Handler W
      handler = r.handlers i

      own : ConfinedHandler S (r.handlers i)
      own = confined.handler i

      leaves : (h : Handler W) → ConfinedHandler S h → Confined S n (with_handler r i h)
      leaves h = with_handler_confined r i h inside confined

      begins : ConfinedHandler S (begun S (r.handlers i))
      begins = record {
        read_set = λ y _. refl;
        written_set = λ y _. refl;
        numbers = own.numbers;
        transaction = own.numbers;
        copies = λ y _. refl;
      }

      writes : (x : ℕ) → x < S.cell_count → (v : W) → ConfinedHandler S (wrote (r.handlers i) x v)
      writes x l v = record {
        read_set = own.read_set;
        written_set = put_beyond true l own.written_set;
        numbers = own.numbers;
        transaction = own.transaction;
        copies = put_beyond v l own.copies;
      }

      commits : ConfinedHandler S (idle S (stamped r (r.handlers i)))
      commits = idle_confined S _ (stamped_confined S r handler own)

  -- A step of a handler below n, of no cell beyond the register's, leaves the register confined.
  pub step_confined : (r : Register W) → Confined S n r → (i : ℕ) → i < n
      → (s : Step) → Within S.cell_count s → (v : W) → Confined S n (step S r i s v).after
  step_confined = step_keeps S n (Confined S n) ways

  -- A turn leaves the register confined, whatever is asked for.
  pub turn_confined : (r : Register W) → Confined S n r → (well_formed : Bool) (i code : ℕ) (v : W)
      → Confined S n (turn S n well_formed r i code v).after
  turn_confined = turn_keeps S n (Confined S n) ways

  -- A fresh register is confined.
  pub fresh_confined : Confined S n (fresh S)
  unfolding fresh blank
  fresh_confined = record {
    cells = λ c _. refl;
    handlers = λ i _. refl;
    cell = λ c y _. refl;
    handler = λ i. idle_confined S zeros (λ y _. refl);
  }
