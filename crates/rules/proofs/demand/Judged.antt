-- Each reply of a register that keeps the invariant is the judgement of its history, refused or reported.
use Prim.Native.Nat.{ℕ}
use mathlib.Core.Path.{◌≡◌, refl, sym, ap, ◌∙◌, fun_ext, subst}
use mathlib.Core.Bool.{true, false, ◌||◌}
use Rattle.rules.specs.steps.Tables.{lowest}
use Rattle.rules.specs.steps.Codes.{Step, begin, try, give_up, read, write}
use Rattle.rules.specs.steps.Replies.{shows, Refusal, Reply}
use Rattle.rules.specs.steps.Register.{Setting, Register}
use Rattle.rules.specs.steps.Checks.{first_hit}
use Rattle.rules.specs.steps.Given.{Given, phase_for, Free}
use Rattle.rules.specs.steps.Figure.{overtaken_cell, spent_cell, step}
use Rattle.rules.specs.steps.Turn.{asked, turn, taken_turn}
use Rattle.rules.specs.history.History.{History, has_read, has_written, writer}
use Rattle.rules.specs.history.Past.{in_past, tears_at}
use Rattle.rules.specs.demand.Demand.{reported_to}
use Rattle.rules.specs.demand.Judge.{stale, full, or_aborted, answer_read, answer_try, answer, asked_by_history, or_answered, judgement}
use Rattle.rules.proofs.steps.Tables.{or_left}
use Rattle.rules.proofs.steps.Given.{given_exactly, free_exactly}
use Rattle.rules.proofs.steps.Steps.{torn_at, reading_cases, trying_cases}
use Rattle.rules.proofs.steps.Turns.{turn_cases}
use Rattle.rules.proofs.history.Deeds.{EachRead}
use Rattle.rules.proofs.history.Sources.{Latest, stale_at_lem}
use Rattle.rules.proofs.demand.Invariant.{Carries, Invariant, own_number}
use Rattle.rules.proofs.demand.Reading.{torn_same}
use Rattle.rules.proofs.demand.Committing.{held}

module _ {W : Type 0} (S : Setting W) (n : ℕ) (h : History W) (i code : ℕ) where
  -- A step that is given a number by the history is refused with it.
  pub judged_refused : (refusal : Refusal) → Given (asked_by_history S n h i code) refusal
      → judgement S n h i code ≡ Reply.refused refusal
  unfolding judgement or_answered
  judged_refused refusal given = rw ((given_exactly (asked_by_history S n h i code) refusal).1 given)

  -- A step that is free by the history is answered.
  pub judged_free : (s : Step) → Free (asked_by_history S n h i code) s
      → judgement S n h i code ≡ reported_to i code (answer S h i s)
  unfolding judgement or_answered
  judged_free s free = rw ((free_exactly (asked_by_history S n h i code)).1 (s, free), free.fits.heard.known)

module _ {W : Type 0} (S : Setting W) (r : Register W) (h : History W) (g : Invariant S r h) where
  -- ── The tests by the numbers are the tests by the history ───────────

  -- The handler's sets are those of the history.
  pub has_copy : (i x : ℕ)
      → (r.handlers i).read_set x || (r.handlers i).written_set x ≡ has_read (h.now i) x || has_written (h.now i) x
  has_copy i x = rw ((g.handlers i).read_set x, (g.handlers i).written_set x)

  module _ (i : ℕ) (is_open : h.opened i ≡ true) where
    -- Abort 1's test,
    torn_is : (x : ℕ) → has_read (h.now i) x || has_written (h.now i) x ≡ false
        → torn_at S r (r.handlers i) x ≡ tears_at S.cell_count h.commits (h.now i) (writer h.commits x)
    torn_is x e = torn_same S h.commits i (h.now i) (r.handlers i) x (writer h.commits x) (r.cells x)
        (held S r h i g is_open) (g.numbers x) (or_left (has_read (h.now i) x) (has_written (h.now i) x) e)

    -- abort 2's,
    overtaken_is : overtaken_cell S r (r.handlers i) ≡ lowest S.cell_count (stale h.commits (h.now i))
    unfolding overtaken_cell
    overtaken_is = ap (lowest S.cell_count) (fun_ext (λ y.
        rw (holds.read_set y, holds.transaction refl y, own_number S r h g y)
        (sym (stale_at_lem h.commits (in_past h.commits i (h.now i)) (h.now i) latest_reads y))))
      where
        holds : Carries S h.commits i true (h.now i) (r.handlers i)
        holds = held S r h i g is_open

        latest_reads : EachRead (λ y source v. Latest h.commits (in_past h.commits i (h.now i)) y source) (h.now i)
        latest_reads y source v sooner q = (holds.seen y source v sooner q).latest

    -- and abort 3's.
    spent_is : spent_cell S r (r.handlers i) ≡ lowest S.cell_count (full h.commits (h.now i))
    unfolding spent_cell full
    spent_is = ap (lowest S.cell_count) (fun_ext (λ y. rw ((g.handlers i).written_set y, own_number S r h g y)))

  -- ── Each reply ──────────────────────────────────────────────────────

  -- What a step comes to, in the phase that it wants.
  pub answer_is : (i : ℕ) (s : Step) (v : W) → h.opened i ≡ phase_for s → (step S r i s v).outcome ≡ answer S h i s
  unfolding step answer answer_read answer_try or_aborted first_hit
  answer_is i begin v phase = refl
  answer_is i (write x) v phase = refl
  answer_is i give_up v phase = refl
  answer_is i (read x) v phase =
      reading_cases S r i (r.handlers i) (λ result. result.outcome ≡ answer_read S h.commits (h.now i) x) x
      (λ e. let copy = sym (has_copy i x) ∙ e in rw copy (ap shows ((g.handlers i).copies x copy)))
      (λ e y t. let no_copy = sym (has_copy i x) ∙ e in rw (no_copy, sym (torn_is i phase x no_copy) ∙ t))
      (λ e t. let no_copy = sym (has_copy i x) ∙ e in
      rw (no_copy, sym (torn_is i phase x no_copy) ∙ t) (ap shows (g.values x)))
  answer_is i try v phase = trying_cases S r i (r.handlers i) (λ result. result.outcome ≡ answer_try S h.commits (h.now i))
      (λ z e. rw (sym (overtaken_is i phase) ∙ e))
      (λ e z k. rw (sym (overtaken_is i phase) ∙ e, sym (spent_is i phase) ∙ k))
      (λ e k. rw (sym (overtaken_is i phase) ∙ e, sym (spent_is i phase) ∙ k))

  -- The reply to whatever is asked for.
  pub reply_is_lem : (n i code : ℕ) (v : W) → (turn S n true r i code v).reply ≡ judgement S n h i code
  reply_is_lem n i code v = turn_cases S n true r i code v (λ t. t.reply ≡ judgement S n h i code) is_refused is_taken
    where
      same : asked S n true r i code ≡ asked_by_history S n h i code
      same = rw (g.handlers i).opened

      is_refused : (refusal : Refusal) → Given (asked S n true r i code) refusal → Reply.refused refusal ≡ judgement S n h i code
      is_refused refusal given = sym (judged_refused S n h i code refusal (subst (λ a. Given a refusal) same given))

      is_taken : (s : Step) → Free (asked S n true r i code) s → (taken_turn S r i code v s).reply ≡ judgement S n h i code
      is_taken s free =
          let told : Free (asked_by_history S n h i code) s = subst (λ a. Free a s) same free in
          ap (reported_to i code) (answer_is i s v told.phase) ∙ sym (judged_free S n h i code s told)
