-- Aborts 1, 2 and 3 are answered, each with its cell, exactly when the history says so.
use Prim.Native.Nat.{ℕ, ◌<◌}
use native.Mathlib.Omega.{arith}
use mathlib.Core.Path.{◌≡◌, refl, sym, ap, ◌∙◌}
use mathlib.Core.Bool.{true}
use mathlib.Core.List.{List, [], ◌∷◌}
use mathlib.Core.Option.{Option, none, some, some-ne-none, some-injective}
use mathlib.Core.Logic.Iff
use mathlib.Core.Logic.{◌↔◌}
use Rattle.rules.specs.steps.Tables.{lowest, LowestOf}
use Rattle.rules.specs.steps.Codes.{Step, try, read, known}
use Rattle.rules.specs.steps.Replies.{Reason, torn, overtaken, spent, Content, Outcome, ok, shows, committed, aborted, Reply, reported}
use Rattle.rules.specs.steps.Register.{Setting, Register}
use Rattle.rules.specs.steps.Checks.{Check, ◌naming◌, first_hit}
use Rattle.rules.specs.steps.Given.{Within, phase_for, Free}
use Rattle.rules.specs.steps.Turn.{turn}
use Rattle.rules.specs.history.History.{History, has_written, writer, every_commit}
use Rattle.rules.specs.history.Past.{Tears, tears_at}
use Rattle.rules.specs.history.Replay.{replay}
use Rattle.rules.specs.demand.Demand.{reported_to, FirstRead}
use Rattle.rules.specs.demand.Judge.{stale, full, or_aborted, answer_read, answer_try, answer, asked_by_history, judgement}
use Rattle.rules.specs.demand.Judge.{Overtaken, Exhausted}
use Rattle.rules.proofs.steps.Tables.{lowest_tells, none_tells}
use Rattle.rules.proofs.steps.Properties.{commit_no_abort, shows_no_abort}
use Rattle.rules.proofs.history.Deeds.{EachRead}
use Rattle.rules.proofs.history.Computed.{tears_is, stale_tells, full_tells}
use Rattle.rules.proofs.demand.Invariant.{Invariant}
use Rattle.rules.proofs.demand.Judged.{judged_free, reply_is_lem}

-- Two aborts of one kind that are the same name one cell.
same_torn : (a b : ℕ) → torn a ≡ torn b → a ≡ b
same_torn a b e = cc

same_overtaken : (a b : ℕ) → overtaken a ≡ overtaken b → a ≡ b
same_overtaken a b e = cc

same_spent : (a b : ℕ) → spent a ≡ spent b → a ≡ b
same_spent a b e = cc

-- Abort 3 is not abort 2.
spent_apart : (a b : ℕ) → spent a ≡ overtaken b → ⊥
spent_apart a b e = let z : ◌≡◌ {A = ℕ} 0 1 = cc in omega arith

module _ {W : Type 0} where
  -- Two aborts that are the same have one reason.
  one_reason : {a b : Reason} → ◌≡◌ {A = Outcome W} (aborted a) (aborted b) → a ≡ b
  one_reason e = cc

  -- An abort that names a place is the outcome exactly when its check finds that place, where what comes after it is no such abort.
  named_exactly : (reason : ℕ → Reason) → ((a b : ℕ) → reason a ≡ reason b → a ≡ b) → (place : Option ℕ) (checks : List (Check Reason))
      (outcome : Outcome W) (y : ℕ) → (or_aborted (first_hit checks) outcome ≡ aborted (reason y) → ⊥)
      → (or_aborted (first_hit ((reason naming place) ∷ checks)) outcome ≡ aborted (reason y)) ↔ (place ≡ some y)
  unfolding first_hit or_aborted
  named_exactly reason same none checks outcome y other = ((λ e. absurd (other e)), (λ e. absurd (some-ne-none y (sym e))))
  named_exactly reason same (some z) checks outcome y other =
      ((λ e. ap some (same z y (one_reason e))), (λ e. ap (λ k. aborted (reason k)) (some-injective z y e)))

  -- An abort is the outcome behind a check of another reason exactly when that check finds nothing, and it is so without it.
  behind_exactly : (reason : Reason) (first : ℕ → Reason) → ((z : ℕ) → first z ≡ reason → ⊥) → (place : Option ℕ)
      (checks : List (Check Reason)) (outcome : Outcome W)
      → (or_aborted (first_hit ((first naming place) ∷ checks)) outcome ≡ aborted reason)
      ↔ ((place ≡ none) × (or_aborted (first_hit checks) outcome ≡ aborted reason))
  unfolding first_hit or_aborted
  behind_exactly reason first apart none checks outcome = ((λ e. (refl, e)), (λ k. k.1))
  behind_exactly reason first apart (some z) checks outcome =
      ((λ e. absurd (apart z (one_reason e))), (λ k. absurd (some-ne-none z k.0)))

  -- A read that is not torn shows something.
  not_torn : (v : Content W) (y : ℕ) → or_aborted (first_hit []) (shows v) ≡ aborted (torn y) → ⊥
  unfolding first_hit or_aborted
  not_torn v y e = shows_no_abort v (torn y) e

  -- A try that no check aborts commits.
  not_aborted : (reason : Reason) → ◌≡◌ {A = Outcome W} (or_aborted (first_hit []) committed) (aborted reason) → ⊥
  unfolding first_hit or_aborted
  not_aborted reason e = commit_no_abort reason e

  -- A try that is not overtaken is spent or committed.
  not_overtaken : (place : Option ℕ) (y : ℕ)
      → ◌≡◌ {A = Outcome W} (or_aborted (first_hit ((spent naming place) ∷ [])) committed) (aborted (overtaken y)) → ⊥
  not_overtaken place y e = not_aborted (overtaken y) ((behind_exactly (overtaken y) spent (λ z. spent_apart z y) place [] committed).0 e).1

  -- The outcome that a reply reports; ok where it is refused.
  abbrev pub outcome_in : Reply W → Outcome W
  outcome_in (reported report) = report.outcome
  outcome_in (Reply.refused refusal) = ok

-- ── By the history alone ──────────────────────────────────────────────

module _ {W : Type 0} (S : Setting W) (n : ℕ) (h : History W) (i code : ℕ) where
  -- The history tells that a step that is free by it is aborted exactly when its answer is that abort.
  answer_exactly : (s : Step) (reason : Reason) → Free (asked_by_history S n h i code) s
      → (judgement S n h i code ≡ reported_to i code (aborted reason)) ↔ (answer S h i s ≡ aborted reason)
  answer_exactly s reason free = ((λ e. ap outcome_in (sym told ∙ e)), (λ e. told ∙ ap (reported_to i code) e))
    where
      told : judgement S n h i code ≡ reported_to i code (answer S h i s)
      told = judged_free S n h i code s free

  -- A step of a cell below m, asked for by a handler below n in the phase that it wants, is free by the history.
  free_by_history : (s : Step) → S.sheet code ≡ known s → i < n → Within S.cell_count s → h.opened i ≡ phase_for s
      → Free (asked_by_history S n h i code) s
  free_by_history s asks inside cell phase = record {
    fits = record { heard = record { well_formed = refl; known = asks; handler = inside }; cell = cell };
    phase = phase;
  }

  -- Where the transaction has read none but cells of the register:
  module _ (reads_inside : EachRead (λ y source v. y < S.cell_count) (h.now i)) where
    -- abort 1 and the cell y, exactly when y is the lowest cell read of which the writer of x, or a commit in its past, wrote a later version;
    pub torn_told : (x y : ℕ) → FirstRead S n h i code x
        → (judgement S n h i code ≡ reported_to i code (aborted (torn y)))
        ↔ LowestOf (Tears h.commits (h.now i) (writer h.commits x)) y
    unfolding answer answer_read
    torn_told x y f =
        Iff.trans (answer_exactly (read x) (torn y) (free_by_history (read x) f.asks f.handler f.cell f.opened))
        (Iff.trans by_check (tears_is S.cell_count h.commits (h.now i) reads_inside (writer h.commits x) y))
      where
        place : Option ℕ
        place = tears_at S.cell_count h.commits (h.now i) (writer h.commits x)

        present : Content W
        present = replay h.commits every_commit x

        by_check : (answer S h i (read x) ≡ aborted (torn y)) ↔ (place ≡ some y)
        by_check = rw (f.unread, f.unwritten) (named_exactly torn same_torn place [] (shows present) y (not_torn present y))

    module _ (inside : i < n) (asks : S.sheet code ≡ known try) (is_open : h.opened i ≡ true) (y : ℕ) where
      -- The lowest cell that is stale,
      abbrev stale_at : Option ℕ
      stale_at = lowest S.cell_count (stale h.commits (h.now i))

      -- and the lowest that is full.
      abbrev full_at : Option ℕ
      full_at = lowest S.cell_count (full h.commits (h.now i))

      -- A try is free.
      free : Free (asked_by_history S n h i code) try
      free = free_by_history try asks inside tt is_open

      -- Abort 2 and the cell y, exactly when y is the lowest cell of which the version read is no longer the present one.
      pub overtaken_told : (judgement S n h i code ≡ reported_to i code (aborted (overtaken y)))
          ↔ LowestOf (Overtaken h.commits (h.now i)) y
      unfolding answer answer_try
      overtaken_told = Iff.trans (answer_exactly try (overtaken y) free) (Iff.trans by_check
          (lowest_tells S.cell_count _ _ (stale_tells S.cell_count h.commits (h.now i) reads_inside) y))
        where
          by_check : (answer S h i try ≡ aborted (overtaken y)) ↔ (stale_at ≡ some y)
          by_check = named_exactly overtaken same_overtaken stale_at ((spent naming full_at) ∷ []) committed y (not_overtaken full_at y)

      -- Abort 3 and the cell y, exactly when there is none such, and y is the lowest one written that has had 65,535 versions.
      pub spent_told : ((z : ℕ) → has_written (h.now i) z ≡ true → z < S.cell_count)
          → (judgement S n h i code ≡ reported_to i code (aborted (spent y)))
          ↔ (((z : ℕ) → Overtaken h.commits (h.now i) z → ⊥) × LowestOf (Exhausted h.commits (h.now i)) y)
      unfolding answer answer_try
      spent_told writes_inside = Iff.trans (answer_exactly try (spent y) free) (Iff.trans by_checks
          ((λ k. (current.0 k.0, lowest_full.0 k.1)), (λ k. (current.1 k.0, lowest_full.1 k.1))))
        where
          current : (stale_at ≡ none) ↔ ((z : ℕ) → Overtaken h.commits (h.now i) z → ⊥)
          current = none_tells S.cell_count _ _ (stale_tells S.cell_count h.commits (h.now i) reads_inside)

          lowest_full : (full_at ≡ some y) ↔ LowestOf (Exhausted h.commits (h.now i)) y
          lowest_full = lowest_tells S.cell_count _ _ (full_tells S.cell_count h.commits (h.now i) reads_inside writes_inside) y

          by_checks : (answer S h i try ≡ aborted (spent y)) ↔ ((stale_at ≡ none) × (full_at ≡ some y))
          by_checks = Iff.trans (behind_exactly (spent y) overtaken (λ z e. spent_apart y z (sym e)) stale_at ((spent naming full_at) ∷ []) committed)
              ((λ k. (k.0, own.0 k.1)), (λ k. (k.0, own.1 k.1)))
            where
              own : (◌≡◌ {A = Outcome W} (or_aborted (first_hit ((spent naming full_at) ∷ [])) committed) (aborted (spent y))) ↔ (full_at ≡ some y)
              own = named_exactly spent same_spent full_at [] committed y (not_aborted (spent y))

-- ── By a register ─────────────────────────────────────────────────────

-- A register's reply is what the history tells, so it aborts exactly then.
module _ {W : Type 0} (S : Setting W) (n : ℕ) (r : Register W) (h : History W) (g : Invariant S r h) (i code : ℕ) (v : W) where
  -- The transaction of handler i has read none but cells of the register.
  reads_inside : EachRead (λ y source v. y < S.cell_count) (h.now i)
  reads_inside y source w sooner q = ((g.handlers i).seen y source w sooner q).inside

  -- Abort 1,
  pub torn_exactly_lem : (x y : ℕ) → FirstRead S n h i code x
      → ((turn S n true r i code v).reply ≡ reported_to i code (aborted (torn y)))
      ↔ LowestOf (Tears h.commits (h.now i) (writer h.commits x)) y
  torn_exactly_lem x y f = rw (reply_is_lem S r h g n i code v) (torn_told S n h i code reads_inside x y f)

  module _ (inside : i < n) (asks : S.sheet code ≡ known try) (is_open : h.opened i ≡ true) (y : ℕ) where
    -- abort 2,
    pub overtaken_exactly_lem : ((turn S n true r i code v).reply ≡ reported_to i code (aborted (overtaken y)))
        ↔ LowestOf (Overtaken h.commits (h.now i)) y
    overtaken_exactly_lem = rw (reply_is_lem S r h g n i code v) (overtaken_told S n h i code reads_inside inside asks is_open y)

    -- and abort 3.
    pub spent_exactly_lem : ((turn S n true r i code v).reply ≡ reported_to i code (aborted (spent y)))
        ↔ (((z : ℕ) → Overtaken h.commits (h.now i) z → ⊥) × LowestOf (Exhausted h.commits (h.now i)) y)
    spent_exactly_lem = rw (reply_is_lem S r h g n i code v)
        (spent_told S n h i code reads_inside inside asks is_open y (g.handlers i).inside)
