-- Well-formed words stay well formed, and keep saying what the rules say, through every step and every turn; and a fresh
-- register's words are well formed.
use Prim.Native.Nat.{ℕ, ◌≤◌, ◌<◌}
use mathlib.Core.Path.{◌≡◌, refl, sym, ap, ◌∙◌, subst}
use mathlib.Core.Bool.{Bool, true}
use mathlib.Core.List.{List, ◌++◌}
use native.Mathlib.Omega.{arith}
use lib.ListN.{length, drop, length-drop}
use Rattle.rules.specs.steps.Codes.{Step}
use Rattle.rules.specs.steps.Register.{Cell, Handler, Register, fresh}
use Rattle.rules.specs.steps.Checks.{in_range}
use Rattle.rules.specs.steps.Given.{Within}
use Rattle.rules.specs.steps.Figure.{step}
use Rattle.rules.specs.steps.Turn.{turn}
use Rattle.rules.proofs.steps.Bounds.{Fit, BoundedHandler, Bounded, Phased, fresh_phased, step_phased, turn_phased, step_bounded, turn_bounded, fresh_bounded}
use Rattle.rules.proofs.steps.Confined.{Confined, turn_confined}
use Rattle.layout.specs.Places.{cells_of, handlers_of, body_long, size, body_of, handler_part, number_in, phase_in}
use Rattle.layout.specs.View.{word_setting, view_cell, view_handler, view, pour_cell, pour_handler, pour, viewed, register_in, Holds}
use Rattle.layout.specs.WellFormed.{GoodBlock, GoodBody, PhasesTo, WellFormed}
use Rattle.layout.proofs.Bits.{mask_small, no_bit_from}
use Rattle.layout.proofs.Rows.{below_inside}
use Rattle.layout.proofs.Places.{handler_fits}
use Rattle.rules.proofs.steps.Given.{range_tested}
use Rattle.layout.proofs.Blocks.{HoldsCell, HoldsHandler, poured_cell, poured_handler}
use Rattle.layout.proofs.Holds.{pour_holds, register_length}
use Rattle.layout.proofs.ViewPour.{view_cell_lem, view_handler_lem, view_pour, view_confined}

-- ── Bounded registers and well-formed words ───────────────────────────

-- A block that holds a bounded handler is good.
pub held_good : {m : ℕ} {h : Handler ℕ} {block : List ℕ} → HoldsHandler m h block → BoundedHandler m h → GoodBlock m block
held_good {m} {h} {block} holds bound = record {
  read_set = (no_bit_from m _).1 (rw holds.read_set (mask_small m h.read_set));
  written_set = (no_bit_from m _).1 (rw holds.written_set (mask_small m h.written_set));
  numbers = λ y l. rw (holds.numbers y l) (bound.numbers y l);
  transaction = λ y l. rw (holds.transaction y l) (bound.transaction y l);
}

-- Words that hold a cell whose numbers are at most 65,535 have such numbers.
held_fit : {m : ℕ} {c : Cell ℕ} {cell : List ℕ} → HoldsCell m c cell → Fit m c.numbers → Fit m (number_in cell)
held_fit holds fits y l = rw (holds.numbers y l) (fits y l)

-- What a good block says is bounded.
good_bounded : (m : ℕ) (block : List ℕ) → GoodBlock m block → BoundedHandler m (view_handler m block)
unfolding view_handler
good_bounded m block good = record {
  numbers = λ y l. rw below_inside (good.numbers y l);
  transaction = λ y l. rw below_inside (good.transaction y l);
}

-- A body that holds a bounded register is good.
pub holds_good : {m n : ℕ} {r : Register ℕ} {rest body : List ℕ} → Bounded m n r → Holds m n r rest body → GoodBody m n body
holds_good {m} {n} {r} {rest} {body} bounded holds = record {
  long = holds.fits;
  numbers = λ c h. subst (λ (cell : List ℕ). Fit m (number_in cell)) (sym (holds.cells c h)) (cell c h);
  blocks = λ i h. subst (GoodBlock m) (sym (holds.handlers i h)) (block i h);
}
  where
    cell : (c : ℕ) → c < m → Fit m (number_in (pour_cell m (r.cells c)))
    cell c h = held_fit (poured_cell m (r.cells c)) (bounded.cells c h)

    block : (i : ℕ) → i < n → GoodBlock m (pour_handler m (r.handlers i))
    block i h = held_good (poured_handler m (r.handlers i)) (bounded.handlers i h)

-- The poured body of a bounded register is good, whatever is behind it.
pub pour_good : (m n : ℕ) (r : Register ℕ) (rest : List ℕ) → Bounded m n r → GoodBody m n (pour m n r ++ rest)
pour_good m n r rest bounded = holds_good bounded (pour_holds m n r rest)

-- A good body says a bounded register.
pub view_bounded : {m n : ℕ} {body : List ℕ} → GoodBody m n body → Bounded m n (view m n body)
unfolding view_cell
view_bounded {m} {n} {body} good = record {
  cells = λ c h y l. rw (view_cell_lem m n body c h, below_inside) (good.numbers c h y l);
  handlers = λ i h. rw (view_handler_lem m n body i h) (good_bounded m (handler_part m body i) (good.blocks i h));
}

-- A body that holds a register has its phases.
pub holds_phases : {last m n : ℕ} {r : Register ℕ} {rest body : List ℕ} → Phased last n r → Holds m n r rest body → PhasesTo last m n body
holds_phases {last} {m} {n} {r} {rest} {body} phased holds i h =
    omega (arith, phased.phase i h, ap phase_in (holds.handlers i h) ∙ (poured_handler m (r.handlers i)).phase)

-- A body says its phases.
pub view_phases : (last m n : ℕ) (body : List ℕ) → PhasesTo last m n body → Phased last n (view m n body)
unfolding view_handler
view_phases last m n body below = record { phase = λ i h. rw (view_handler_lem m n body i h) (omega (arith, below i h)) }

-- The words of a fresh register with m and n in range are well formed, whatever is behind them.
pub fresh_well_formed : (m n : ℕ) (words : List ℕ) → in_range m n ≡ true → WellFormed (register_in words m n (fresh (word_setting m)))
fresh_well_formed m n words ranged = record {
  range = (range_tested m n).0 ranged;
  body = pour_good m n (fresh (word_setting m)) (drop (body_long m n) (body_of words)) (fresh_bounded (word_setting m) n);
  phases = holds_phases (fresh_phased (word_setting m) 1 n) (pour_holds m n (fresh (word_setting m)) _);
}

-- Well-formed words are long enough.
pub well_long : {words : List ℕ} → WellFormed words → size (cells_of words) (handlers_of words) ≤ length words
well_long {words} w =
    omega (arith, w.body.long, length-drop 2 words, handler_fits (cells_of words) (handlers_of words) 0 w.range.some_handler)

-- ── Steps and turns ───────────────────────────────────────────────────

-- Words that are a well-formed register of as many cells and handlers as before, and as many words.
pub record Keeps (words after : List ℕ) : Type 0 where
  pub well_formed : WellFormed after
  pub cell_count : cells_of after ≡ cells_of words
  pub handler_count : handlers_of after ≡ handlers_of words
  pub size : length after ≡ length words

module _ (words : List ℕ) (w : WellFormed words) where
  -- The words' number of cells.
  abbrev m : ℕ
  m = cells_of words

  -- The words' number of handlers.
  abbrev n : ℕ
  n = handlers_of words

  -- With a bounded register in front, well-formed words stay so.
  pub kept : (r : Register ℕ) → Bounded m n r → Phased 1 n r → Keeps words (register_in words m n r)
  kept r bounded phased = record {
    well_formed = record {
      range = w.range;
      body = pour_good m n r (drop (body_long m n) (body_of words)) bounded;
      phases = holds_phases phased (pour_holds m n r (drop (body_long m n) (body_of words)));
    };
    cell_count = refl;
    handler_count = refl;
    size = register_length m n r words (well_long w);
  }

  -- A step of a handler below n, of a cell below m if it is of one, keeps them well formed.
  pub step_kept : (i : ℕ) → i < n → (s : Step) → Within m s → (v : ℕ)
      → Keeps words (register_in words m n (step (word_setting m) (viewed words) i s v).after)
  step_kept i inside s below v = kept _ (step_bounded (word_setting m) n (viewed words) (view_bounded w.body) i inside s below v)
      (step_phased (word_setting m) 1 n (omega arith) (viewed words) (view_phases 1 m n (body_of words) w.phases) i inside s below v)

  -- A turn keeps them well formed, whatever is asked for.
  pub turn_kept : (well_formed : Bool) (i code v : ℕ)
      → Keeps words (register_in words m n (turn (word_setting m) n well_formed (viewed words) i code v).after)
  turn_kept well_formed i code v = kept _ (turn_bounded (word_setting m) n (viewed words) (view_bounded w.body) well_formed i code v)
      (turn_phased (word_setting m) 1 n (omega arith) (viewed words) (view_phases 1 m n (body_of words) w.phases) well_formed i code v)

-- The body after a turn says the register that the rules leave.
pub turn_viewed : (m n : ℕ) (body rest : List ℕ) (well_formed : Bool) (i code v : ℕ)
    → view m n (pour m n (turn (word_setting m) n well_formed (view m n body) i code v).after ++ rest)
    ≡ (turn (word_setting m) n well_formed (view m n body) i code v).after
turn_viewed m n body rest well_formed i code v = view_pour m n _ rest confined
  where
    confined : Confined (word_setting m) n (turn (word_setting m) n well_formed (view m n body) i code v).after
    confined = turn_confined (word_setting m) n (view m n body) (view_confined m n body) well_formed i code v
