-- The rules never look at a value: a step on a register whose values are mapped is the mapped step.
use Prim.Native.Nat.{ℕ}
use mathlib.Core.Path.{◌≡◌, sym, ap, ap₂, ◌∙◌, fun_ext}
use mathlib.Core.Bool.{true, ◌||◌}
use mathlib.Core.Option.{Option, none, some}
use lib.Dec.{eqb}
use Rattle.rules.specs.steps.Tables.{put}
use Rattle.rules.specs.steps.Codes.{Step, begin, try, give_up, read, write}
use Rattle.rules.specs.steps.Replies.{Reason, gave_up, Content, unset, value, Outcome, ok, shows, committed, aborted}
use Rattle.rules.specs.steps.Register.{Setting, Cell, Handler, Register, with_handler, idle}
use Rattle.rules.specs.steps.Checks.{first_hit}
use Rattle.rules.specs.steps.Figure.{Result, joined, taken, wrote, version_shows, shown, stamped, stored, begun, torn_cell, overtaken_cell, spent_cell}
use Rattle.rules.specs.steps.Figure.{aborting, committing, ended_with, unless_aborted, read_checks, try_checks, first_read, reading, trying, step}
use Rattle.rules.proofs.steps.Tables.{by, put_map}

module _ {W U : Type 0} (f : W → U) where
  -- Each value mapped.
  abbrev pub map_setting : Setting W → Setting U
  map_setting S = record { empty = f S.empty; cell_count = S.cell_count; sheet = S.sheet }

  abbrev pub map_cell : Cell W → Cell U
  map_cell c = record { value = f c.value; numbers = c.numbers }

  abbrev pub map_handler : Handler W → Handler U
  map_handler h = record {
    phase = h.phase;
    read_set = h.read_set;
    written_set = h.written_set;
    numbers = h.numbers;
    transaction = h.transaction;
    copies = λ y. f (h.copies y);
  }

  abbrev pub map_register : Register W → Register U
  map_register r = record { cells = λ c. map_cell (r.cells c); handlers = λ i. map_handler (r.handlers i) }

  abbrev pub map_content : Content W → Content U
  map_content unset = unset
  map_content (value v) = value (f v)

  abbrev pub map_outcome : Outcome W → Outcome U
  map_outcome ok = ok
  map_outcome (shows v) = shows (map_content v)
  map_outcome committed = committed
  map_outcome (aborted reason) = aborted reason

  abbrev pub map_result : Result W → Result U
  map_result q = record { outcome = map_outcome q.outcome; after = map_register q.after }

  module _ (r : Register W) (i : ℕ) where
    -- A mapped handler in a mapped register.
    with_mapped : (h : Handler W) → with_handler (map_register r) i (map_handler h) ≡ map_register (with_handler r i h)
    unfolding with_handler
    with_mapped h = λ d. record { cells = λ c. map_cell (r.cells c); handlers = fun_ext (λ j. sym (put_map map_handler r.handlers i h j)) d }

  -- A write of a mapped value.
  wrote_mapped : (h : Handler W) (x : ℕ) (v : W) → wrote (map_handler h) x (f v) ≡ map_handler (wrote h x v)
  unfolding wrote
  wrote_mapped h x v = λ d. record {
    phase = 1;
    read_set = h.read_set;
    written_set = put h.written_set x true;
    numbers = h.numbers;
    transaction = h.transaction;
    copies = fun_ext (λ y. sym (put_map f h.copies x v y)) d;
  }

  -- A first read of a mapped cell.
  taken_mapped : (h : Handler W) (x : ℕ) (c : Cell W)
      → taken (joined (map_handler h) x (map_cell c)) x (map_cell c) ≡ map_handler (taken (joined h x c) x c)
  unfolding taken joined
  taken_mapped h x c = λ d. record {
    phase = 1;
    read_set = put h.read_set x true;
    written_set = h.written_set;
    numbers = h.numbers;
    transaction = (taken (joined h x c) x c).transaction;
    copies = fun_ext (λ y. sym (put_map f h.copies x c.value y)) d;
  }

  -- What is shown, of a mapped copy.
  shown_mapped : (h : Handler W) (x : ℕ) → shown (map_handler h) x ≡ map_content (shown h x)
  unfolding shown version_shows
  shown_mapped h x = by (h.written_set x) (λ e. rw e) (λ e. rw e (by (eqb (h.transaction x) 0) (λ k. rw k) (λ k. rw k)))

  module _ (S : Setting W) (r : Register W) (i : ℕ) where
    -- A transaction that is ended.
    ended_mapped : (reason : Reason)
        → ended_with (map_setting S) reason (map_register r) i (map_handler (r.handlers i)) ≡ map_result (ended_with S reason r i (r.handlers i))
    unfolding aborting idle
    ended_mapped reason = ap (λ q. record { outcome = aborted reason; after = q }) (with_mapped r i _)

    -- Where a check decides.
    unless_mapped : (o : Option Reason) (result : Result W) {mapped : Result U} → mapped ≡ map_result result
        → unless_aborted (map_setting S) (map_register r) i (map_handler (r.handlers i)) o mapped ≡ map_result
        (unless_aborted S r i (r.handlers i) o result)
    unfolding unless_aborted
    unless_mapped none result e = e
    unless_mapped (some reason) result e = ended_mapped reason

    -- A commit.
    commit_mapped : committing (map_setting S) (map_register r) i (map_handler (r.handlers i)) ≡ map_register (committing S r i (r.handlers i))
    unfolding committing idle stamped stored
    commit_mapped = ap (λ cells. with_handler (record { cells = cells; handlers = (map_register r).handlers }) i (idle (map_setting S) numbers)) cells
        ∙ with_mapped (record { cells = stored r (r.handlers i); handlers = r.handlers }) i (idle S numbers)
      where
        numbers : ℕ → ℕ
        numbers = stamped r (r.handlers i)

        cells : stored (map_register r) (map_handler (r.handlers i)) ≡ (λ c. map_cell (stored r (r.handlers i) c))
        cells = fun_ext (λ c. by ((r.handlers i).written_set c) (λ e. rw e) (λ e. rw e))

    -- A step.
    pub step_mapped : (s : Step) (v : W) → step (map_setting S) (map_register r) i s (f v) ≡ map_result (step S r i s v)
    unfolding step begun wrote trying try_checks overtaken_cell spent_cell reading first_read read_checks torn_cell joined taken with_handler first_hit
    step_mapped begin v = ap (λ q. record { outcome = ok; after = q }) (with_mapped r i _)
    step_mapped try v = unless_mapped (first_hit (try_checks S r (r.handlers i)))
        (record { outcome = committed; after = committing S r i (r.handlers i) }) (ap (λ q. record { outcome = committed; after = q }) commit_mapped)
    step_mapped give_up v = ended_mapped gave_up
    step_mapped (read x) v = by ((r.handlers i).read_set x || (r.handlers i).written_set x)
        (λ e. rw e (ap (λ v. record { outcome = shows v; after = map_register r }) (shown_mapped (r.handlers i) x)))
        (λ e. rw e (unless_mapped (first_hit (read_checks S (joined (r.handlers i) x (r.cells x)) (r.cells x)))
        (record { outcome = shows (shown next x); after = with_handler r i next })
        (ap (λ h. record { outcome = shows (shown h x); after = with_handler (map_register r) i h }) (taken_mapped (r.handlers i) x (r.cells x))
        ∙ ap₂ (λ v q. record { outcome = shows v; after = q }) (shown_mapped next x) (with_mapped r i next))))
      where
        next : Handler W
        next = taken (joined (r.handlers i) x (r.cells x)) x (r.cells x)
    step_mapped (write x) v = ap (λ q. record { outcome = ok; after = q })
        (ap (with_handler (map_register r) i) (wrote_mapped (r.handlers i) x v) ∙ with_mapped r i _)
