-- The third demand: what is true of every register that a list of steps leads to from the fresh one, and of the history of the
-- replies on the way, refused steps among them.
use Rattle.std.specs.Prelude.{ℕ, ◌<◌, ◌≡◌, true, false, List, [], ◌∷◌, ◌↔◌}
use Rattle.rules.specs.steps.Tables.{LowestOf}
use Rattle.rules.specs.steps.Codes.{known, read}
use Rattle.rules.specs.steps.Replies.{torn, Outcome, aborted, Reply, reported}
use Rattle.rules.specs.steps.Register.{Setting, Register, fresh}
use Rattle.rules.specs.steps.Figure.{cell_shows}
use Rattle.rules.specs.steps.Turn.{turn}
use Rattle.rules.specs.history.History.{History, has_read, has_written, writer, no_history, note_reply}
use Rattle.rules.specs.history.Past.{Tears}
use Rattle.rules.specs.history.Replay.{Legal}

-- ── Runs ──────────────────────────────────────────────────────────────

-- A step as it is asked for, by any handler and any code, with a value where it is a write.
pub record Ask (W : Type 0) : Type 0 where
  pub handler : ℕ
  pub code : ℕ
  pub value : W

-- A register, and the history that led to it.
pub record State (W : Type 0) : Type 0 where
  pub register : Register W
  pub history : History W

-- A fresh register, before the first step.
unfoldable pub start : {W : Type 0} → Setting W → State W
start S = record { register = fresh S; history = no_history }

module _ {W : Type 0} (S : Setting W) (n : ℕ) where
  -- A register of n handlers takes its turn, and the reply is noted.
  unfoldable pub moved : State W → Ask W → State W
  moved s a =
      let t = turn S n true s.register a.handler a.code a.value in
      record { register = t.after; history = note_reply s.history a.handler (S.sheet a.code) a.value t.reply }

  -- After a list of steps, the first asked for first.
  unfoldable pub run : State W → List (Ask W) → State W
  run s [] = s
  run s (a ∷ asks) = run (moved s a) asks

-- ── The demand ────────────────────────────────────────────────────────

-- The report of an outcome to handler i, which asked for it by a code.
abbrev pub reported_to : {W : Type 0} → ℕ → ℕ → Outcome W → Reply W
reported_to i code outcome = reported (record { handler = i; code = code; outcome = outcome })

-- A first read of a cell x that the transaction has not written: handler i, whose transaction is open, asks for it by a code.
pub record FirstRead {W : Type 0} (S : Setting W) (n : ℕ) (h : History W) (i code x : ℕ) : Type 0 where
  pub handler : i < n
  pub cell : x < S.cell_count
  pub asks : S.sheet code ≡ known (read x)
  pub opened : h.opened i ≡ true
  pub unread : has_read (h.now i) x ≡ false
  pub unwritten : has_written (h.now i) x ≡ false

-- A register and a history agree with the third demand:
pub record Consistent {W : Type 0} (S : Setting W) (n : ℕ) (r : Register W) (h : History W) : Type 0 where
  -- (a) and (b), with what the cells show as the table that the history leads to;
  pub legal : Legal h (λ x. cell_shows x (r.cells x))
  -- (c) a first read is answered abort 1 and names the cell y exactly when y is the lowest cell already read of which the writer of the
  -- present value, or a commit in that writer's causal past, wrote a later version than the one read
  pub torn_exactly : (i code x y : ℕ) (v : W) → FirstRead S n h i code x
      → ((turn S n true r i code v).reply ≡ reported_to i code (aborted (torn y)))
      ↔ LowestOf (Tears h.commits (h.now i) (writer h.commits x)) y

-- THE THIRD DEMAND, of every kind of value, number of cells, code sheet, number of handlers, and list of steps from a fresh register.
abbrev pub ThirdDemand : Type 1
ThirdDemand = (W : Type 0) (S : Setting W) (n : ℕ) (asks : List (Ask W))
    → Consistent S n (run S n (start S) asks).register (run S n (start S) asks).history
