-- The judge's step: which replies it can give, and that the words it leaves say the history with the reply noted.
use Prim.Native.Nat.{ℕ, ◌<◌}
use mathlib.Core.Path.{◌≡◌, refl, sym, subst}
use mathlib.Core.Bool.{Bool, true, false, ◌&&◌, and-false}
use mathlib.Core.List.{List}
use lib.Dec.{leb}
use borrow.Author.Tests.{leb-false}
use Rattle.rules.specs.steps.Codes.{Step, Kind, known, unknown, plain_sheet}
use Rattle.rules.specs.steps.Replies.{Outcome, Refusal, too_many_commits, Reply}
use Rattle.rules.specs.steps.Register.{Setting}
use Rattle.rules.specs.steps.Checks.{first_hit, step_checks}
use Rattle.rules.specs.steps.Given.{Free}
use Rattle.rules.specs.history.History.{History, note_reply}
use Rattle.rules.specs.demand.Demand.{reported_to}
use Rattle.rules.specs.demand.Judge.{answer, asked_by_history, or_answered, judgement}
use Rattle.rules.proofs.steps.Tables.{by, both_ways, found, and_both}
use Rattle.rules.proofs.steps.Given.{free_exactly}
use Rattle.rules.proofs.demand.Judged.{judged_free}
use Rattle.rules.proofs.history.Alike.{SameHistory, history_refl}
use Rattle.rules.proofs.demand.ThirdDemand.{note_refused}
use Rattle.layout.specs.Places.{cells_of, handlers_of}
use Rattle.layout.specs.View.{word_setting}
use Rattle.ledger.specs.Entries.{Ledger, commits_noted, most_commits}
use Rattle.ledger.specs.Histories.{history_in}
use Rattle.ledger.specs.Noting.{note_outcome, note_words}
use Rattle.ledger.specs.Promises.{is_commit, reports_commit, limited, judged_reply}
use Rattle.ledger.proofs.Tested.{tested}
use Rattle.ledger.proofs.Faithful.{Keeps, keeps_itself}
use Rattle.ledger.proofs.Outcomes.{outcome_noted, outcome_keeps}

-- What the history says of a step is a refusal, or the answer to a step that is free.
pub judgement_cases : {W : Type 0} (S : Setting W) (n : ℕ) (h : History W) (i code : ℕ) (Q : Reply W → Type 0)
    → ((refusal : Refusal) → Q (Reply.refused refusal))
    → ((s : Step) → Free (asked_by_history S n h i code) s → Q (reported_to i code (answer S h i s))) → Q (judgement S n h i code)
unfolding judgement or_answered
judgement_cases S n h i code Q is_refused is_free = found (first_hit (step_checks (asked_by_history S n h i code)))
    (λ refusal e. rw e (is_refused refusal))
    (λ e. let free = (free_exactly (asked_by_history S n h i code)).0 e in
    subst Q (sym (judged_free S n h i code free.0 free.1)) (is_free free.0 free.1))

-- Where a commit would not be one too many there is room for it.
pub room_for : (noted : ℕ) (commits : Bool) → leb most_commits noted && commits ≡ false → commits ≡ true → noted < most_commits
room_for noted commits passes is = leb-false most_commits noted
    (by (leb most_commits noted) (λ full. both_ways (and_both (leb most_commits noted) commits full is) passes) (λ room. room))

-- What reports no commit is within every limit,
pub limited_other : (noted : ℕ) (reply : Reply ℕ) → reports_commit reply ≡ false → limited noted reply ≡ reply
unfolding limited
limited_other noted reply other = rw (other, and-false)

-- and a report is, unless it is of a commit and there is no room for one.
limited_cases : (noted : ℕ) (Q : Reply ℕ → Type 0) (i code : ℕ) (outcome : Outcome ℕ) → Q (Reply.refused too_many_commits)
    → ((is_commit outcome ≡ true → noted < most_commits) → Q (reported_to i code outcome))
    → Q (limited noted (reported_to i code outcome))
unfolding limited
limited_cases noted Q i code outcome is_refused is_reported = by (leb most_commits noted && is_commit outcome)
    (λ e. rw e is_refused)
    (λ e. rw e (is_reported (room_for noted (is_commit outcome) e)))

-- A refusal changes no word.
pub refusal_unnoted : (words : List ℕ) (i : ℕ) (kind : Kind) (v : ℕ) (refusal : Refusal)
    → note_words words i kind v (Reply.refused refusal) ≡ words
unfolding note_words
refusal_unnoted words i (known s) v refusal = refl
refusal_unnoted words i unknown v refusal = refl

module _ {words : List ℕ} (ledger : Ledger words) (i code : ℕ) where
  -- The rules over these words, and the history that they say.
  abbrev S : Setting ℕ
  S = word_setting (cells_of words)

  abbrev h : History ℕ
  h = history_in words

  -- The reply of a ledger is what the history tells, within the limit.
  pub reply_limited : judged_reply words i code ≡ limited (commits_noted words) (judgement S (handlers_of words) h i code)
  unfolding judged_reply
  reply_limited = rw ((tested words).1 ledger)

  -- The reply is a refusal, or the answer to a step that is free, which has room if it is a commit.
  pub reply_cases : (Q : Reply ℕ → Type 0) → ((refusal : Refusal) → Q (Reply.refused refusal))
      → ((s : Step) → Free (asked_by_history S (handlers_of words) h i code) s
      → (is_commit (answer S h i s) ≡ true → commits_noted words < most_commits) → Q (reported_to i code (answer S h i s)))
      → Q (judged_reply words i code)
  reply_cases Q is_refused is_free = subst Q (sym reply_limited)
      (judgement_cases S (handlers_of words) h i code (λ reply. Q (limited (commits_noted words) reply))
      (λ refusal. subst Q (sym (limited_other (commits_noted words) (Reply.refused refusal) refl)) (is_refused refusal))
      (λ s free. limited_cases (commits_noted words) Q i code (answer S h i s) (is_refused too_many_commits) (is_free s free)))

  -- The words afterwards are those before where the step is refused, and else those with its outcome noted.
  after_cases : (v : ℕ) (Q : Reply ℕ → Kind → List ℕ → Type 0)
      → ((refusal : Refusal) (kind : Kind) → Q (Reply.refused refusal) kind words)
      → ((s : Step) → Free (asked_by_history S (handlers_of words) h i code) s
      → (is_commit (answer S h i s) ≡ true → commits_noted words < most_commits)
      → Q (reported_to i code (answer S h i s)) (known s) (note_outcome words i s v (answer S h i s)))
      → Q (judged_reply words i code) (plain_sheet code) (note_words words i (plain_sheet code) v (judged_reply words i code))
  unfolding note_words
  after_cases v Q is_refused is_free = reply_cases (λ reply. Q reply (plain_sheet code) (note_words words i (plain_sheet code) v reply))
      (λ refusal. subst (Q (Reply.refused refusal) (plain_sheet code)) (sym (refusal_unnoted words i (plain_sheet code) v refusal))
      (is_refused refusal (plain_sheet code)))
      (λ s free room. subst (λ kind. Q (told s) kind (note_words words i kind v (told s))) (sym free.fits.heard.known) (is_free s free room))
    where
      told : Step → Reply ℕ
      told s = reported_to i code (answer S h i s)

  -- They say the history with the reply noted,
  pub reply_noted : (v : ℕ) → SameHistory (note_reply h i (plain_sheet code) v (judged_reply words i code))
      (history_in (note_words words i (plain_sheet code) v (judged_reply words i code)))
  unfolding note_reply
  reply_noted v = after_cases v (λ reply kind after. SameHistory (note_reply h i kind v reply) (history_in after))
      (λ refusal kind. subst (λ g. SameHistory g h) (sym (note_refused h i kind v refusal)) history_refl)
      (λ s free room. outcome_noted ledger free.fits.heard.handler s v (answer S h i s) refl free.fits.cell free.phase room)

  -- and are a ledger of the same m and n.
  pub reply_keeps : (v : ℕ) → Keeps words (note_words words i (plain_sheet code) v (judged_reply words i code))
  reply_keeps v = after_cases v (λ reply kind after. Keeps words after) (λ refusal kind. keeps_itself ledger)
      (λ s free room. outcome_keeps ledger free.fits.heard.handler s v (answer S h i s) room)
