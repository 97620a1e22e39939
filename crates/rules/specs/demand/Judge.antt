-- What the history alone tells: each reply, which is what the judge computes, and what a cell's numbers mean.
use Rattle.std.specs.Prelude.{ℕ, suc, ◌<◌, ◌≡◌, Bool, true, not, ◌&&◌, ◌||◌, List, [], ◌∷◌, ◌↔◌, eqb, if◌then◌else◌}
use Rattle.std.proofs.Math.Option.{Option, none, some}
use Rattle.rules.specs.steps.Tables.{put, lowest, LowestOf}
use Rattle.rules.specs.steps.Codes.{Step, begin, try, give_up, read, write, Kind, known, unknown}
use Rattle.rules.specs.steps.Replies.{Reason, torn, overtaken, spent, gave_up, Content, unset, value, Outcome, ok, shows, committed, aborted}
use Rattle.rules.specs.steps.Replies.{Refusal, unknown_step, Reply}
use Rattle.rules.specs.steps.Register.{Setting, Register}
use Rattle.rules.specs.steps.Checks.{◌naming◌, first_hit, Asked, asking, step_checks}
use Rattle.rules.specs.steps.Turn.{turn}
use Rattle.rules.specs.history.History.{Deed, look, again, set, Commit, History, some_look, has_read, has_written}
use Rattle.rules.specs.history.History.{place_after, writer, every_commit}
use Rattle.rules.specs.history.Past.{Stands, up_to, tears_at}
use Rattle.rules.specs.history.Replay.{replay}
use Rattle.rules.specs.demand.Demand.{Ask, reported_to, start, run}

module _ {W : Type 0} where
  -- ── Versions by number ──────────────────────────────────────────────

  -- How many versions of a cell the commits wrote.
  unfoldable pub version_count : List (Commit W) → ℕ → ℕ
  version_count [] y = 0
  version_count (c ∷ commits) y = if has_written c.deeds y then suc (version_count commits y) else (version_count commits y)

  -- The number of the latest version of a cell that the commits of a set wrote; 0, the opening's, where none wrote it.
  unfoldable pub number_among : List (Commit W) → (ℕ → Bool) → ℕ → ℕ
  number_among [] included y = 0
  number_among (c ∷ commits) included y =
      if included (place_after commits) && has_written c.deeds y then suc (version_count commits y)
      else (number_among commits included y)

  -- ── Each reply ──────────────────────────────────────────────────────

  -- What the copies that a transaction has made by its deeds show.
  unfoldable pub copied : List (Deed W) → ℕ → Content W
  copied [] = λ _. unset
  copied (look y source v ∷ deeds) = put (copied deeds) y v
  copied (again y v ∷ deeds) = copied deeds
  copied (set y v ∷ deeds) = put (copied deeds) y (value v)

  -- The version of y that these deeds read is not the present one.
  unfoldable pub stale : List (Commit W) → List (Deed W) → ℕ → Bool
  stale commits deeds y = some_look (λ z source. eqb y z && not (eqb source (writer commits z))) deeds

  -- These deeds wrote y, which has had 65,535 versions.
  unfoldable pub full : List (Commit W) → List (Deed W) → ℕ → Bool
  full commits deeds y = has_written deeds y && eqb (version_count commits y) 65535

  -- An outcome, unless a check aborts.
  unfoldable pub or_aborted : Option Reason → Outcome W → Outcome W
  or_aborted none outcome = outcome
  or_aborted (some reason) outcome = aborted reason

module _ {W : Type 0} (S : Setting W) where
  -- The answer to a read of x: its copy, or abort 1, or what all commits leave there.
  unfoldable pub answer_read : List (Commit W) → List (Deed W) → ℕ → Outcome W
  answer_read commits deeds x =
      if has_read deeds x || has_written deeds x then (shows (copied deeds x))
      else (or_aborted (first_hit ((torn naming tears_at S.cell_count commits deeds (writer commits x)) ∷ []))
      (shows (replay commits every_commit x)))

  -- The answer to a try: abort 2, or abort 3, or commit.
  unfoldable pub answer_try : List (Commit W) → List (Deed W) → Outcome W
  answer_try commits deeds =
      or_aborted (first_hit ((overtaken naming lowest S.cell_count (stale commits deeds)) ∷
      (spent naming lowest S.cell_count (full commits deeds)) ∷ [])) committed

  -- The answer to a step of handler i.
  unfoldable pub answer : History W → ℕ → Step → Outcome W
  answer h i begin = ok
  answer h i (write x) = ok
  answer h i (read x) = answer_read h.commits (h.now i) x
  answer h i try = answer_try h.commits (h.now i)
  answer h i give_up = aborted gave_up

  -- What the checks of a step look at, as the history tells it of a register of n handlers.
  abbrev pub asked_by_history : ℕ → History W → ℕ → ℕ → Asked
  asked_by_history n h i code = asking true S.cell_count n i (S.sheet code) (h.opened i)

  -- Refused, or else answered.
  unfoldable pub or_answered : History W → ℕ → ℕ → Option Refusal → Kind → Reply W
  or_answered h i code (some refusal) kind = Reply.refused refusal
  or_answered h i code none unknown = Reply.refused unknown_step
  or_answered h i code none (known step) = reported_to i code (answer h i step)

  -- The reply to what handler i asks for by a code, from the history alone.
  unfoldable pub judgement : ℕ → History W → ℕ → ℕ → Reply W
  judgement n h i code = or_answered h i code (first_hit (step_checks (asked_by_history n h i code))) (S.sheet code)

-- ── What is told ──────────────────────────────────────────────────────

-- The version of the cell that these deeds read from the cells is no longer the present one.
pub record Overtaken {W : Type 0} (commits : List (Commit W)) (deeds : List (Deed W)) (cell : ℕ) : Type 0 where
  pub source : ℕ
  pub value : Content W
  pub sooner : List (Deed W)
  pub reads : Stands deeds (look cell source value) sooner
  pub passed : source ≡ writer commits cell → ⊥

-- These deeds wrote the cell, which has had 65,535 versions.
pub record Exhausted {W : Type 0} (commits : List (Commit W)) (deeds : List (Deed W)) (cell : ℕ) : Type 0 where
  pub writes : has_written deeds cell ≡ true
  pub versions : version_count commits cell ≡ 65535

-- The history tells of a register:
pub record Told {W : Type 0} (S : Setting W) (n : ℕ) (r : Register W) (h : History W) : Type 0 where
  -- each reply, refused or reported;
  pub replies : (i code : ℕ) (v : W) → (turn S n true r i code v).reply ≡ judgement S n h i code
  -- abort 2 and the cell y, to a try of an open transaction, exactly when y is the lowest cell of which the version read is no longer the
  -- present one;
  pub overtaken_exactly : (i code y : ℕ) (v : W) → i < n → S.sheet code ≡ known try → h.opened i ≡ true
      → ((turn S n true r i code v).reply ≡ reported_to i code (aborted (overtaken y))) ↔ LowestOf (Overtaken h.commits (h.now i)) y
  -- abort 3 and the cell y exactly when there is no such cell, and y is the lowest one written that has had 65,535 versions;
  pub spent_exactly : (i code y : ℕ) (v : W) → i < n → S.sheet code ≡ known try → h.opened i ≡ true
      → ((turn S n true r i code v).reply ≡ reported_to i code (aborted (spent y)))
      ↔ (((z : ℕ) → Overtaken h.commits (h.now i) z → ⊥) × LowestOf (Exhausted h.commits (h.now i)) y)
  -- a cell's number for y: that of the latest version of y in the cell's writer and that one's past
  pub numbers : (x y : ℕ) → (r.cells x).numbers y ≡ number_among h.commits (up_to h.commits (writer h.commits x)) y

-- So it is after every list of steps from a fresh register.
abbrev pub HistoryTells : Type 1
HistoryTells = (W : Type 0) (S : Setting W) (n : ℕ) (asks : List (Ask W))
    → Told S n (run S n (start S) asks).register (run S n (start S) asks).history
