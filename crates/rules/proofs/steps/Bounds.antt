-- No number grows beyond 65,535: a register whose numbers are at most that keeps them so through every step and every turn. A
-- number grows by a stamp alone, and a number of 65,535 is not stamped.
use Prim.Native.Nat.{ℕ, ◌≤◌, ◌<◌}
use mathlib.Core.Path.{◌≡◌}
use mathlib.Core.Bool.{Bool, true}
use native.Mathlib.Omega.{arith}
use mathlib.Core.Option.{none}
use borrow.Author.Tests.{eqb-false}
use Rattle.rules.specs.steps.Tables.{put}
use Rattle.rules.specs.steps.Codes.{Step}
use Rattle.rules.specs.steps.Register.{Setting, Cell, Handler, Register, with_handler, idle, blank, fresh}
use Rattle.rules.specs.steps.Given.{Within}
use Rattle.rules.specs.steps.Figure.{joined, taken, wrote, stamped, stored, begun, spent_cell, aborting, committing, step}
use Rattle.rules.specs.steps.Turn.{turn}
use Rattle.rules.proofs.steps.Tables.{by, lowest_none, put_each}
use Rattle.rules.proofs.steps.Ways.{Ways, step_keeps, turn_keeps}

-- The first m numbers of a table are at most 65,535.
abbrev pub Fit : ℕ → (ℕ → ℕ) → Type 0
Fit m numbers = (y : ℕ) → y < m → numbers y ≤ 65535

-- The first m numbers of a handler and of its transaction are at most 65,535.
pub record BoundedHandler {W : Type 0} (m : ℕ) (h : Handler W) : Type 0 where
  pub numbers : Fit m h.numbers
  pub transaction : Fit m h.transaction

-- Every number of a register of m cells and n handlers is at most 65,535.
pub record Bounded {W : Type 0} (m n : ℕ) (r : Register W) : Type 0 where
  pub cells : (c : ℕ) → c < m → Fit m (r.cells c).numbers
  pub handlers : (i : ℕ) → i < n → BoundedHandler m (r.handlers i)

-- A vector with a number at most 65,535 put into it.
put_fits : (m : ℕ) (numbers : ℕ → ℕ) (x v : ℕ) → Fit m numbers → v ≤ 65535 → Fit m (put numbers x v)
put_fits m numbers x v fits small = put_each (λ y k. y < m → k ≤ 65535) numbers x v (λ _. small) (λ y _. fits y)

module _ {W : Type 0} (m : ℕ) where
  -- A handler between transactions has no numbers but its own.
  pub idle_bounded : (S : Setting W) (numbers : ℕ → ℕ) → Fit m numbers → BoundedHandler m (idle S numbers)
  unfolding idle
  idle_bounded S numbers fits = record { numbers = fits; transaction = λ y _. omega arith }

  -- A first read takes numbers of the cell, each at most 65,535, or the larger of two such.
  taken_bounded : (h : Handler W) (x : ℕ) (c : Cell W) → x < m → BoundedHandler m h → Fit m c.numbers
      → BoundedHandler m (taken (joined h x c) x c)
  unfolding taken joined
  taken_bounded h x c below b fits = record { numbers = b.numbers; transaction = raised }
    where
      joins : Fit m (put h.transaction x (c.numbers x))
      joins = put_fits m h.transaction x (c.numbers x) b.transaction (fits x below)

      raised : Fit m (taken (joined h x c) x c).transaction
      raised y l = by (put h.read_set x true y) (λ e. rw e (joins y l)) (λ e. rw e (omega (arith, joins y l, fits y l)))

  -- A bounded handler in a bounded register.
  with_handler_bounded : (n : ℕ) (r : Register W) (i : ℕ) (h : Handler W) → Bounded m n r → BoundedHandler m h
      → Bounded m n (with_handler r i h)
  unfolding with_handler
  with_handler_bounded n r i h b bound = record {
    cells = b.cells;
    handlers = put_each (λ j g. j < n → BoundedHandler m g) r.handlers i h (λ _. bound) (λ j _. b.handlers j);
  }

module _ {W : Type 0} (S : Setting W) where
  -- The setting's number of cells.
  abbrev m : ℕ
  m = S.cell_count

  module _ (n : ℕ) where
    -- A number that is not spent can be raised by 1.
    stamped_fits : (r : Register W) (h : Handler W) → Bounded m n r → BoundedHandler m h → spent_cell S r h ≡ none
        → Fit m (stamped r h)
    unfolding stamped spent_cell
    stamped_fits r h b own unspent y l = by (h.written_set y) raised (λ e. rw e (own.transaction y l))
      where
        raised : h.written_set y ≡ true → stamped r h y ≤ 65535
        raised e =
            let below : (r.cells y).numbers y ≡ 65535 → ⊥ = eqb-false _ 65535 (rw e at (lowest_none m _ unspent y l)) in
            rw e (omega (arith, b.cells y l y l, below))

    -- A stored cell holds its old numbers or the stamped ones.
    stored_bounded : (r : Register W) (h : Handler W) → Bounded m n r → Fit m (stamped r h)
        → Bounded m n (record { cells = stored r h; handlers = r.handlers })
    unfolding stored
    stored_bounded r h b fits = record {
      cells = λ c l. by (h.written_set c) (λ e. rw e fits) (λ e. rw e (b.cells c l));
      handlers = b.handlers;
    }

    -- Each register that a step of a handler below n can leave is bounded.
    ways : (r : Register W) → Bounded m n r → (i : ℕ) → i < n → Ways S (Bounded m n) r i
    unfolding begun wrote aborting committing
    ways r b i inside = record {
      stays = b;
      begins = leaves _ (record { numbers = own.numbers; transaction = own.numbers });
      writes = λ x l v. leaves _ (record { numbers = own.numbers; transaction = own.transaction });
      reads = λ x l _ _. leaves _ (taken_bounded m handler x (r.cells x) l own (b.cells x l));
      aborts = leaves _ (idle_bounded m S _ own.numbers);
      commits = λ _ unspent. commits (stamped_fits r handler b own unspent);
    }
      where
        handler : Handler W
        handler = r.handlers i

        own : BoundedHandler m (r.handlers i)
        own = b.handlers i inside

        leaves : (h : Handler W) → BoundedHandler m h → Bounded m n (with_handler r i h)
        leaves h = with_handler_bounded m n r i h b

        commits : Fit m (stamped r (r.handlers i)) → Bounded m n (committing S r i (r.handlers i))
        commits fits = with_handler_bounded m n _ i _ (stored_bounded r handler b fits) (idle_bounded m S _ fits)

    -- A step of a handler below n, of no cell beyond the register's, leaves numbers of at most 65,535.
    pub step_bounded : (r : Register W) → Bounded m n r → (i : ℕ) → i < n → (s : Step) → Within m s → (v : W)
        → Bounded m n (step S r i s v).after
    step_bounded = step_keeps S n (Bounded m n) ways

    -- A turn leaves numbers of at most 65,535, whatever is asked for.
    pub turn_bounded : (r : Register W) → Bounded m n r → (well_formed : Bool) (i code : ℕ) (v : W)
        → Bounded m n (turn S n well_formed r i code v).after
    turn_bounded = turn_keeps S n (Bounded m n) ways

    -- A fresh register's numbers are 0.
    pub fresh_bounded : Bounded m n (fresh S)
    unfolding fresh blank
    fresh_bounded = record { cells = λ c _ y _. omega arith; handlers = λ i _. idle_bounded m S _ (λ y _. omega arith) }

-- ── Phases ────────────────────────────────────────────────────────────

-- No handler below n is in a phase above the last one.
pub record Phased {W : Type 0} (last n : ℕ) (r : Register W) : Type 0 where
  pub phase : (i : ℕ) → i < n → (r.handlers i).phase ≤ last

module _ {W : Type 0} (S : Setting W) (last n : ℕ) (some : 1 ≤ last) where
  -- Each step leaves the handler idle or open, and the others as they were.
  phased_ways : (r : Register W) → Phased last n r → (i : ℕ) → i < n → Ways S (Phased last n) r i
  unfolding begun wrote taken aborting committing idle with_handler
  phased_ways r p i inside = record {
    stays = p;
    begins = leaves _ (omega arith);
    writes = λ x l v. leaves _ (omega arith);
    reads = λ x l _ _. leaves _ (omega arith);
    aborts = leaves _ (omega arith);
    commits = λ _ _. leaves _ (omega arith);
  }
    where
      leaves : (h : Handler W) → h.phase ≤ last → {cells : ℕ → Cell W} → Phased last n (record { cells = cells; handlers = put r.handlers i h })
      leaves h low = record { phase = put_each (λ j g. j < n → g.phase ≤ last) r.handlers i h (λ _. low) (λ j _. p.phase j) }

  pub step_phased : (r : Register W) → Phased last n r → (i : ℕ) → i < n → (s : Step) → Within S.cell_count s → (v : W)
      → Phased last n (step S r i s v).after
  step_phased = step_keeps S n (Phased last n) phased_ways

  pub turn_phased : (r : Register W) → Phased last n r → (well_formed : Bool) (i code : ℕ) (v : W)
      → Phased last n (turn S n well_formed r i code v).after
  turn_phased = turn_keeps S n (Phased last n) phased_ways

-- A fresh register's handlers are idle.
pub fresh_phased : {W : Type 0} (S : Setting W) (last n : ℕ) → Phased last n (fresh S)
unfolding fresh idle
fresh_phased S last n = record { phase = λ i _. omega arith }
