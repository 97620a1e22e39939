-- The third demand, proved: every turn keeps the invariant and lets every commit find what it read, so every list of steps does.
use Prim.Native.Nat.{ℕ, ◌≤◌, ◌<◌}
use native.Mathlib.Omega.{arith}
use mathlib.Core.Path.{◌≡◌, refl, sym, ◌∙◌, subst}
use mathlib.Core.Bool.{true, false, ◌||◌}
use mathlib.Core.List.{List, [], ◌∷◌}
use mathlib.Core.Option.{none}
use Rattle.rules.specs.steps.Codes.{Step, begin, try, give_up, read, write, Kind, known, unknown}
use Rattle.rules.specs.steps.Replies.{Refusal, Reply}
use Rattle.rules.specs.steps.Register.{Setting, Handler, Register, with_handler}
use Rattle.rules.specs.steps.Given.{Within, phase_for, Free}
use Rattle.rules.specs.steps.Figure.{begun, wrote, cell_shows, shown, overtaken_cell, aborting, committing, reading, trying, step}
use Rattle.rules.specs.steps.Turn.{asked, turn}
use Rattle.rules.specs.history.History.{Deed, look, again, set, Commit, History, has_read, has_written, every_commit}
use Rattle.rules.specs.history.History.{writer, transaction}
use Rattle.rules.specs.history.History.{no_history, doing, read_deed, note_ok, note_shown, ended, note_commit, note_abort}
use Rattle.rules.specs.history.History.{note, note_reply}
use Rattle.rules.specs.history.Past.{Stands, last, older, in_past, up_to}
use Rattle.rules.specs.history.Replay.{replay, Finds}
use Rattle.rules.specs.demand.Demand.{Ask, State, start, moved, run, Consistent, ThirdDemand}
use Rattle.rules.specs.demand.Judge.{version_count, number_among, answer, Told, HistoryTells}
use Rattle.rules.proofs.steps.Tables.{or_left, or_right}
use Rattle.rules.proofs.steps.Steps.{has_taken, torn_at, reading_cases, trying_cases}
use Rattle.rules.proofs.steps.Turns.{turn_cases}
use Rattle.rules.proofs.history.Versions.{number_most, number_writer}
use Rattle.rules.proofs.history.Sources.{wrote_by_writer}
use Rattle.rules.proofs.history.Replays.{present_value}
use Rattle.rules.proofs.demand.Invariant.{Carries, Invariant, own_number, from_past, begun_carries, wrote_carries, again_carries}
use Rattle.rules.proofs.demand.Invariant.{fresh_invariant, doing_invariant, with_same}
use Rattle.rules.proofs.demand.Reading.{taken_carries}
use Rattle.rules.proofs.demand.Committing.{own, held, check_finds, abort_invariant, commit_invariant}
use Rattle.rules.proofs.demand.Judged.{has_copy, answer_is, reply_is_lem}
use Rattle.rules.proofs.demand.ExactAborts.{torn_exactly_lem, overtaken_exactly_lem, spent_exactly_lem}

-- Each commit, done after the earlier ones, finds what was shown.
abbrev pub Found : {W : Type 0} → List (Commit W) → Type 0
Found commits = (c : Commit _) (earlier : List (Commit _)) → Stands commits c earlier
    → Finds c.deeds (replay earlier every_commit)

-- What every turn keeps.
pub record Kept {W : Type 0} (S : Setting W) (r : Register W) (h : History W) : Type 0 where
  pub invariant : Invariant S r h
  pub found : Found h.commits

-- The history tells of the cell x:
pub record CellTold {W : Type 0} (S : Setting W) (r : Register W) (h : History W) (x : ℕ) : Type 0 where
  -- it shows what all commits leave there,
  pub shows : cell_shows x (r.cells x) ≡ replay h.commits every_commit x
  -- and its own number is how many of them wrote it
  pub number : (r.cells x).numbers x ≡ version_count h.commits x

-- ── Every step ────────────────────────────────────────────────────────

module _ {W : Type 0} (S : Setting W) (r : Register W) (h : History W) (i : ℕ) (kept : Kept S r h) where
  -- A step after which handler i's transaction is open, with these deeds.
  doing_kept : (deeds : List (Deed W)) (b : Handler W) → Carries S h.commits i true deeds b
      → Kept S (with_handler r i b) (doing h i deeds)
  doing_kept deeds b c = record {
    invariant = doing_invariant S r h i kept.invariant deeds b c;
    found = unfold doing in kept.found;
  }

  -- An abort.
  abort_kept : Kept S (aborting S r i (r.handlers i)) (note_abort h i)
  abort_kept = record {
    invariant = abort_invariant S r h i kept.invariant;
    found = unfold note_abort ended in kept.found;
  }

  module _ (is_open : h.opened i ≡ true) where
    -- What handler i holds.
    holds : Carries S h.commits i true (h.now i) (r.handlers i)
    holds = held S r h i kept.invariant is_open

    -- A commit, which finds what it read.
    commit_kept : overtaken_cell S r (r.handlers i) ≡ none → Kept S (committing S r i (r.handlers i)) (note_commit h i)
    commit_kept current = record {
      invariant = commit_invariant S r h i kept.invariant is_open current;
      found = unfold note_commit ended in one_more;
    }
      where
        one_more : Found (transaction h i ∷ h.commits)
        one_more c earlier last = check_finds S r h i holds (own S r h i kept.invariant) current
        one_more c earlier (older q) = kept.found c earlier q

    -- A try.
    try_kept : (v : W) → Kept S (trying S r i (r.handlers i)).after (note h i try v (trying S r i (r.handlers i)).outcome)
    unfolding note
    try_kept v = trying_cases S r i (r.handlers i) (λ result. Kept S result.after (note h i try v result.outcome))
        (λ z e. abort_kept)
        (λ e z k. abort_kept)
        (λ e k. commit_kept e)

    -- A repeated read, or one of a cell that it has written.
    again_kept : (x : ℕ) → has_read (h.now i) x || has_written (h.now i) x ≡ true
        → Kept S r (doing h i (again x (shown (r.handlers i) x) ∷ h.now i))
    again_kept x copy = subst (λ q. Kept S q (doing h i deeds)) (with_same S r i)
        (doing_kept deeds (r.handlers i) (again_carries S h.commits i (h.now i) (r.handlers i) x copy holds))
      where
        deeds : List (Deed W)
        deeds = again x (shown (r.handlers i) x) ∷ h.now i

    -- A read of the present version, from the cells.
    abbrev present_read : ℕ → Deed W
    present_read x = look x (writer h.commits x) (cell_shows x (r.cells x))

    -- A first read that is not torn.
    taken_kept : (x : ℕ) → x < S.cell_count → has_read (h.now i) x || has_written (h.now i) x ≡ false
        → torn_at S r (r.handlers i) x ≡ none
        → Kept S (with_handler r i (has_taken r (r.handlers i) x)) (doing h i (present_read x ∷ h.now i))
    taken_kept x inside none_yet t = doing_kept (present_read x ∷ h.now i) (has_taken r (r.handlers i) x)
        (taken_carries S h.commits i (h.now i) (r.handlers i) x (writer h.commits x) (r.cells x) holds
        (kept.invariant.numbers x) unread inside unwritten (wrote_by_writer h.commits x) most left t)
      where
        unread : has_read (h.now i) x ≡ false
        unread = or_left (has_read (h.now i) x) (has_written (h.now i) x) none_yet

        unwritten : has_written (h.now i) x ≡ false
        unwritten = or_right (has_read (h.now i) x) (has_written (h.now i) x) none_yet

        most : number_among h.commits (in_past h.commits i (h.now i)) x
            ≤ number_among h.commits (up_to h.commits (writer h.commits x)) x
        most = omega (arith, number_writer h.commits x, number_most h.commits (in_past h.commits i (h.now i)) x)

        left : cell_shows x (r.cells x) ≡ replay h.commits (up_to h.commits (writer h.commits x)) x
        left = kept.invariant.values x ∙ sym (present_value h.commits x)

    -- A read.
    read_kept : (x : ℕ) (v : W) → x < S.cell_count
        → Kept S (reading S r i (r.handlers i) x).after (note h i (read x) v (reading S r i (r.handlers i) x).outcome)
    unfolding note note_shown read_deed
    read_kept x v inside =
        reading_cases S r i (r.handlers i) (λ result. Kept S result.after (note h i (read x) v result.outcome)) x
        (λ e. let copy = sym (has_copy S r h kept.invariant i x) ∙ e in rw copy (again_kept x copy))
        (λ e y t. abort_kept)
        (λ e t. let none_yet = sym (has_copy S r h kept.invariant i x) ∙ e in rw none_yet (taken_kept x inside none_yet t))

  -- Every step of a cell below m, in the phase that it wants.
  step_kept : (s : Step) (v : W) → Within S.cell_count s → h.opened i ≡ phase_for s
      → Kept S (step S r i s v).after (note h i s v (step S r i s v).outcome)
  unfolding step note note_ok
  step_kept begin v inside phase = doing_kept [] (begun S (r.handlers i))
      (begun_carries S h.commits i (h.opened i) (h.now i) (r.handlers i) (kept.invariant.handlers i))
  step_kept try v inside phase = try_kept phase v
  step_kept give_up v inside phase = abort_kept
  step_kept (read x) v inside phase = read_kept phase x v inside
  step_kept (write x) v inside phase = doing_kept (set x v ∷ h.now i) (wrote (r.handlers i) x v)
      (wrote_carries S h.commits i (h.now i) (r.handlers i) x v inside (holds phase))

-- ── Every list of steps ───────────────────────────────────────────────

-- A refusal is not noted.
pub note_refused : {W : Type 0} (h : History W) (i : ℕ) (kind : Kind) (v : W) (refusal : Refusal)
    → note_reply h i kind v (Reply.refused refusal) ≡ h
unfolding note_reply
note_refused h i (known s) v refusal = refl
note_refused h i unknown v refusal = refl

module _ {W : Type 0} (S : Setting W) (n : ℕ) where
  -- Every turn, refused or taken.
  pub turn_kept : (r : Register W) (h : History W) (i code : ℕ) (v : W) → Kept S r h
      → Kept S (turn S n true r i code v).after (note_reply h i (S.sheet code) v (turn S n true r i code v).reply)
  turn_kept r h i code v kept =
      turn_cases S n true r i code v (λ t. Kept S t.after (note_reply h i (S.sheet code) v t.reply))
      (λ refusal given. rw (note_refused h i (S.sheet code) v refusal) kept)
      (λ s free. rw free.fits.heard.known (unfold note_reply in (taken s free)))
    where
      phase : (s : Step) → Free (asked S n true r i code) s → h.opened i ≡ phase_for s
      phase s free = sym (kept.invariant.handlers i).opened ∙ free.phase

      taken : (s : Step) → Free (asked S n true r i code) s
          → Kept S (step S r i s v).after (note h i s v (step S r i s v).outcome)
      taken s free = step_kept S r h i kept s v free.fits.cell (phase s free)

  -- Every run, from any state that has it.
  pub run_kept : (s : State W) (asks : List (Ask W)) → Kept S s.register s.history
      → Kept S (run S n s asks).register (run S n s asks).history
  unfolding run moved
  run_kept s [] kept = kept
  run_kept s (a ∷ asks) kept = run_kept (moved S n s a) asks
      (turn_kept s.register s.history a.handler a.code a.value kept)

  -- A fresh register, before the first step.
  pub start_kept : Kept S (start S).register (start S).history
  unfolding start no_history
  start_kept = record { invariant = fresh_invariant S; found = λ c earlier q. elim q [ ] }

  -- ── What is kept is what is claimed ─────────────────────────────────

  -- It is consistent,
  pub consistent_of : (r : Register W) (h : History W) → Kept S r h → Consistent S n r h
  consistent_of r h kept = record {
    legal = record {
      finds = kept.found;
      ends = kept.invariant.values;
      aborted = λ a earlier q. (kept.invariant.aborts a earlier q).1;
      opened = λ i. from_past S h.commits i (h.now i) (kept.invariant.handlers i).seen;
    };
    torn_exactly = λ i code x y v. torn_exactly_lem S n r h kept.invariant i code v x y;
  }

  -- and told by its history.
  pub told_of : (r : Register W) (h : History W) → Kept S r h → Told S n r h
  told_of r h kept = record {
    replies = reply_is_lem S r h kept.invariant n;
    overtaken_exactly = λ i code y v inside asks is_open. overtaken_exactly_lem S n r h kept.invariant i code v inside asks is_open y;
    spent_exactly = λ i code y v inside asks is_open. spent_exactly_lem S n r h kept.invariant i code v inside asks is_open y;
    numbers = kept.invariant.numbers;
  }

module _ {W : Type 0} (S : Setting W) (n : ℕ) (asks : List (Ask W)) where
  -- The state that a list of steps leads to from a fresh register keeps it.
  pub reached_kept : Kept S (run S n (start S) asks).register (run S n (start S) asks).history
  reached_kept = run_kept S n (start S) asks (start_kept S n)

  -- There, what a step comes to, in the phase that it wants, is the answer of the history.
  pub judged : (i : ℕ) (s : Step) (v : W) → (run S n (start S) asks).history.opened i ≡ phase_for s
      → (step S (run S n (start S) asks).register i s v).outcome ≡ answer S (run S n (start S) asks).history i s
  judged = answer_is S (run S n (start S) asks).register (run S n (start S) asks).history reached_kept.invariant

  -- There, the history tells of each cell.
  pub cells_told : (x : ℕ) → CellTold S (run S n (start S) asks).register (run S n (start S) asks).history x
  cells_told x = record {
    shows = reached_kept.invariant.values x;
    number = own_number S (run S n (start S) asks).register (run S n (start S) asks).history reached_kept.invariant x;
  }

-- The third demand holds.
pub third_demand : ThirdDemand
third_demand W S n asks =
    consistent_of S n (run S n (start S) asks).register (run S n (start S) asks).history (reached_kept S n asks)

-- The history tells each reply, abort 2, and what a cell's numbers mean.
pub history_tells : HistoryTells
history_tells W S n asks =
    told_of S n (run S n (start S) asks).register (run S n (start S) asks).history (reached_kept S n asks)
