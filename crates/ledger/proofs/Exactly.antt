-- The judge gives each refusal exactly when its condition holds, and then no word is changed. It gives aborts 1 and 2, each with its cell,
-- exactly when the history says so, and never abort 3; with 64 commits noted it still answers all that is no commit.
use Prim.Native.Nat.{ℕ, ◌<◌}
use native.Mathlib.Omega.{arith}
use mathlib.Core.Path.{◌≡◌, refl, sym, ap, ◌∙◌}
use mathlib.Core.Bool.{true, false, ◌&&◌}
use mathlib.Core.List.{List}
use mathlib.Core.Logic.Iff
use mathlib.Core.Logic.{◌↔◌, ◌⊎◌, inl, inr}
use lib.Dec.{leb}
use lib.ListN.{length}
use borrow.Author.Tests.{leb-true}
use Rattle.rules.specs.steps.Codes.{plain_sheet}
use Rattle.rules.specs.steps.Replies.{Reason, torn, overtaken, spent, Outcome, committed, aborted, Report, Reply, reported, Opening}
use Rattle.rules.specs.steps.Replies.{Refusal, not_well_formed, too_many_commits}
use Rattle.rules.specs.steps.Register.{Setting}
use Rattle.rules.specs.steps.Checks.{Asked}
use Rattle.rules.specs.steps.Given.{OpeningGiven}
use Rattle.rules.specs.history.History.{History}
use Rattle.rules.specs.demand.Demand.{reported_to}
use Rattle.rules.specs.demand.Judge.{asked_by_history}
use Rattle.rules.proofs.steps.Tables.{by, and_left, and_right, both_ways}
use Rattle.rules.proofs.steps.Given.{Verdict, verdict}
use Rattle.rules.proofs.steps.Turns.{refused_exactly}
use Rattle.rules.proofs.history.Deeds.{EachRead}
use Rattle.rules.proofs.demand.Judged.{judged_refused, judged_free}
use Rattle.rules.proofs.steps.Properties.{ok_no_abort}
use Rattle.rules.proofs.demand.ExactAborts.{outcome_in, torn_told, overtaken_told}
use Rattle.rules.proofs.demand.NeverSpent.{never_spent_lem}
use Rattle.layout.specs.Places.{cells_of, handlers_of}
use Rattle.layout.specs.View.{word_setting}
use Rattle.promises.proofs.Exactly.{opening_said, opening_given}
use Rattle.ledger.specs.Entries.{ledger_long, most_commits, commits_noted, handler_row, Ledger, is_ledger, entry_in}
use Rattle.ledger.specs.Histories.{history_in}
use Rattle.ledger.specs.Noting.{note_words}
use Rattle.ledger.specs.Promises.{ledger_refusal, ledger_words, LedgerPromise, is_commit, reports_commit, limited, judged_reply, JudgedPromise}
use Rattle.ledger.specs.Given.{told_by, JudgeGiven, no_ledger, by_rules, no_room, JudgeAborts}
use Rattle.ledger.proofs.Tested.{tested}
use Rattle.ledger.proofs.Deeds.{reads_below}
use Rattle.ledger.proofs.Commits.{commits_count}
use Rattle.ledger.proofs.Faithful.{now_is}
use Rattle.ledger.proofs.Steps.{limited_other, refusal_unnoted, reply_limited, reply_cases}

-- ── Opening ───────────────────────────────────────────────────────────

module _ {words : List ℕ} {m n : ℕ} {reply : Opening} {after : List ℕ} (p : LedgerPromise words m n reply after) where
  -- An opening is refused with each number exactly then.
  pub ledger_refused : (refusal : Refusal) → (reply ≡ Opening.refused refusal) ↔ OpeningGiven m n (length words) ledger_long refusal
  unfolding ledger_refusal
  ledger_refused = opening_given m n (length words) ledger_long p.replied

  -- A refused opening changes no word.
  pub ledger_unchanged : (refusal : Refusal) → reply ≡ Opening.refused refusal → after ≡ words
  unfolding ledger_words
  ledger_unchanged refusal e = p.left ∙ rw ((opening_said (ledger_refusal words m n) refusal).0 (sym p.replied ∙ e))

-- ── A step ────────────────────────────────────────────────────────────

-- The one outcome of a commit is commit.
commit_only : (outcome : Outcome ℕ) → is_commit outcome ≡ true → outcome ≡ committed
commit_only Outcome.ok e = both_ways e refl
commit_only (Outcome.shows content) e = both_ways e refl
commit_only committed e = refl
commit_only (aborted reason) e = both_ways e refl

module _ (words : List ℕ) (i code : ℕ) where
  -- What is asked, as the history tells it.
  abbrev asked : Asked
  asked = asked_by_history (word_setting (cells_of words)) (handlers_of words) (history_in words) i code

  -- A step that is given a number is refused with it: 10, the rules' numbers, and 33.
  given_refuses : (refusal : Refusal) → JudgeGiven words i code refusal → judged_reply words i code ≡ Reply.refused refusal
  unfolding judged_reply limited
  given_refuses _ (no_ledger wrong) = rw (by (is_ledger words) (λ e. absurd (wrong ((tested words).0 e))) (λ e. e))
  given_refuses refusal (by_rules ledger given) =
      reply_limited ledger i code
      ∙ ap (limited (commits_noted words)) (judged_refused _ (handlers_of words) (history_in words) i code refusal given)
      ∙ limited_other (commits_noted words) (Reply.refused refusal) refl
  given_refuses _ (no_room ledger noted told) = reply_limited ledger i code ∙ rw (noted, told)

  -- The judge gives one refusal, or it reports.
  abbrev Decided : Type 0
  Decided = ((refusal : Refusal) × JudgeGiven words i code refusal) ⊎ ((report : Report ℕ) × (judged_reply words i code ≡ reported report))

  -- So it is where the history tells an outcome,
  outcome_decides : Ledger words → (outcome : Outcome ℕ) → told_by words i code ≡ reported_to i code outcome → Decided
  unfolding limited
  outcome_decides ledger outcome told = by (leb most_commits (commits_noted words) && is_commit outcome)
      (λ e. let full = leb-true most_commits (commits_noted words) (and_left _ (is_commit outcome) e) in
      let commits = commit_only outcome (and_right (leb most_commits (commits_noted words)) (is_commit outcome) e) in
      inl (too_many_commits, no_room ledger (omega (arith, ledger.few, full)) (told ∙ ap (reported_to i code) commits)))
      (λ e. let reports : judged_reply words i code ≡ reported_to i code outcome = reply_limited ledger i code ∙ rw (told, e) in inr (_, reports))

  -- of each ledger,
  ledger_decides : Ledger words → Verdict asked → Decided
  ledger_decides ledger (inl (refusal, given)) = inl (refusal, by_rules ledger given)
  ledger_decides ledger (inr (s, free)) = outcome_decides ledger _ (judged_free _ (handlers_of words) (history_in words) i code s free)

  -- and of all words.
  decided : Decided
  decided = by (is_ledger words)
      (λ e. ledger_decides ((tested words).0 e) (verdict asked))
      (λ e. inl (not_well_formed, no_ledger (λ ledger. both_ways ((tested words).1 ledger) e)))

module _ {words : List ℕ} {handler code value : ℕ} {reply : Reply ℕ} {after : List ℕ}
    (p : JudgedPromise words handler code value reply after) where
  -- A step is refused with each number exactly then.
  pub judge_refused : (refusal : Refusal) → (reply ≡ Reply.refused refusal) ↔ JudgeGiven words handler code refusal
  judge_refused refusal =
      let given = refused_exactly (JudgeGiven words handler code) (given_refuses words handler code)
      (decided words handler code) refusal in
      (λ e. given.0 (sym p.replied ∙ e), λ g. p.replied ∙ given.1 g)

  -- A refused step changes no word.
  pub judge_unchanged : (refusal : Refusal) → reply ≡ Reply.refused refusal → after ≡ words
  judge_unchanged refusal e =
      p.left ∙ ap (note_words words handler (plain_sheet code) value) (sym p.replied ∙ e)
      ∙ refusal_unnoted words handler (plain_sheet code) value refusal

-- ── Aborts ────────────────────────────────────────────────────────────

-- A ledger notes too few commits for any number to be spent.
short_history : (words : List ℕ) → Ledger words → length (history_in words).commits < 65535
unfolding history_in
short_history words ledger = omega (arith, ledger.few, commits_count (cells_of words) words (commits_noted words))

-- No reply of the judge is abort 3, whatever the cell.
pub never_three : (words : List ℕ) (i code y : ℕ) → judged_reply words i code ≡ reported_to i code (aborted (spent y)) → ⊥
never_three words i code y e = by (is_ledger words)
    (λ t. let ledger = (tested words).0 t in
    reply_cases ledger i code (λ reply. outcome_in reply ≡ aborted (spent y) → ⊥) (λ refusal. ok_no_abort (spent y))
    (λ s free room. never_spent_lem y (word_setting (cells_of words)) (history_in words) i s (short_history words ledger)) (ap outcome_in e))
    (λ t. let refused = given_refuses words i code not_well_formed (no_ledger (λ ledger. both_ways ((tested words).1 ledger) t)) in
    ok_no_abort (spent y) (ap outcome_in (sym refused ∙ e)))

module _ {words : List ℕ} (ledger : Ledger words) (i code : ℕ) where
  -- An outcome that is no commit is the judge's reply where the history tells it, however many commits are noted.
  pub others_answered : (outcome : Outcome ℕ) → is_commit outcome ≡ false
      → told_by words i code ≡ reported_to i code outcome → judged_reply words i code ≡ reported_to i code outcome
  others_answered outcome other told =
      reply_limited ledger i code ∙ ap (limited (commits_noted words)) told
      ∙ limited_other (commits_noted words) (reported_to i code outcome) other

  -- So a try that is overtaken is answered abort 2 and its cell also where 64 are,
  pub too_many_only_then : (y : ℕ) → told_by words i code ≡ reported_to i code (aborted (overtaken y))
      → judged_reply words i code ≡ reported_to i code (aborted (overtaken y))
  too_many_only_then y = others_answered (aborted (overtaken y)) refl

  -- and each abort is the reply exactly where the history tells it.
  abort_exactly : (reason : Reason) → (judged_reply words i code ≡ reported_to i code (aborted reason))
      ↔ (told_by words i code ≡ reported_to i code (aborted reason))
  unfolding limited
  abort_exactly reason = (to, others_answered (aborted reason) refl)
    where
      to : judged_reply words i code ≡ reported_to i code (aborted reason) → told_by words i code ≡ reported_to i code (aborted reason)
      to e = by (leb most_commits (commits_noted words) && reports_commit (told_by words i code))
          (λ full. let refused : judged_reply words i code ≡ Reply.refused too_many_commits = reply_limited ledger i code ∙ rw full in
          absurd (ok_no_abort reason (ap outcome_in (sym refused ∙ e))))
          (λ room. let same : judged_reply words i code ≡ told_by words i code = reply_limited ledger i code ∙ rw room in sym same ∙ e)

-- Each abort of a ledger that names a cell is given exactly then.
pub judge_aborts : {words : List ℕ} → Ledger words → JudgeAborts words
judge_aborts {words} ledger = record {
  torn_exactly = λ i code x y first. Iff.trans (abort_exactly ledger i code (torn y))
      (torn_told S n h i code (inside i first.handler) x y first);
  overtaken_exactly = λ i code y seat asks is_open. Iff.trans (abort_exactly ledger i code (overtaken y))
      (overtaken_told S n h i code (inside i seat) seat asks is_open y);
  never_spent = never_three words;
}
  where
    S : Setting ℕ
    S = word_setting (cells_of words)

    n : ℕ
    n = handlers_of words

    h : History ℕ
    h = history_in words

    inside : (i : ℕ) → i < n → EachRead (λ y source v. y < cells_of words) (h.now i)
    inside i seat = rw (now_is ledger seat) (reads_below (entry_in words (handler_row i)) (cells_of words))
