-- The judge's words beside the register's: both have seen the same steps, and the judge's say the history that the register's replies
-- make. So both answer alike, but for a commit for which the judge has no room, and stand beside each other afterwards.
use Prim.Native.Nat.{ℕ, suc, ◌+◌}
use native.Mathlib.Omega.{arith}
use mathlib.Core.Path.{◌≡◌, refl, sym, ap, ◌∙◌, subst}
use mathlib.Core.Bool.{true, false}
use mathlib.Core.List.{List}
use borrow.Author.Tests.{le-leb, lt-leb}
use Rattle.rules.specs.steps.Codes.{plain_sheet}
use Rattle.rules.specs.steps.Replies.{too_many_commits, Reply}
use Rattle.rules.specs.history.History.{History, note_reply}
use Rattle.rules.specs.demand.Demand.{Ask}
use Rattle.rules.specs.demand.Judge.{judgement}
use Rattle.layout.specs.View.{word_setting}
use Rattle.promises.specs.Stepping.{StepPromise}
use Rattle.promises.specs.Runs.{WordRun, stepped}
use Rattle.promises.proofs.Inherits.{words_inherit}
use Rattle.ledger.specs.Entries.{commits_noted, most_commits}
use Rattle.ledger.specs.Promises.{reports_commit, limited}
use Rattle.ledger.proofs.Steps.{limited_other}
use Rattle.ledger.proofs.Histories.{Says}
use Rattle.ledger.proofs.Runs.{says_reply, says_after}
use Rattle.schedule.specs.Scripts.{ScriptStep}
use Rattle.runs.specs.Players.{the_register, the_judge, reply_by, words_by}
use Rattle.agreement.proofs.Counts.{counted, judge_counts}

-- The register's words after a run of m cells and n handlers, and a ledger of as many that says the run's history.
pub record Beside (m n : ℕ) (words ledger : List ℕ) : Type 0 where
  pub asks : List (Ask ℕ)
  pub history : History ℕ
  pub run : WordRun m n asks words history
  pub says : Says m n ledger history

-- The judge has room for so many commits.
abbrev pub Room : ℕ → List ℕ → Type 0
Room room ledger = commits_noted ledger + room ≡ 64

module _ {m n : ℕ} {words ledger : List ℕ} (beside : Beside m n words ledger) (i : ℕ) (step : ScriptStep) where
  -- What the register replies.
  abbrev reply : Reply ℕ
  reply = reply_by the_register words i step

  -- Its step keeps its promise.
  promise : StepPromise words i step.code step.value reply (words_by the_register words i step)
  promise = record { replied = refl; left = refl }

  -- The register's reply is what the history tells,
  told : reply ≡ judgement (word_setting m) n beside.history i step.code
  told = (words_inherit m n beside.asks words beside.history beside.run).replies promise

  -- and the judge's is the same within the limit.
  within : reply_by the_judge ledger i step ≡ limited (commits_noted ledger) reply
  within = says_reply beside.says i step.code ∙ ap (limited (commits_noted ledger)) (sym told)

  -- A commit without room is refused with 33.
  pub judge_full : Room 0 ledger → reports_commit reply ≡ true → reply_by the_judge ledger i step ≡ Reply.refused too_many_commits
  unfolding limited
  judge_full has reports = within ∙ rw (le-leb most_commits (commits_noted ledger) (omega (arith, has)), reports)

  -- Where there is room, the judge's reply is the same,
  pub judge_with_room : (room : ℕ) → Room (suc room) ledger → reply_by the_judge ledger i step ≡ reply
  unfolding limited
  judge_with_room room has = within ∙ rw (lt-leb most_commits (commits_noted ledger) (omega (arith, has)))

  -- and so it is to all that is no commit.
  pub judge_other : reports_commit reply ≡ false → reply_by the_judge ledger i step ≡ reply
  judge_other reports = within ∙ limited_other (commits_noted ledger) reply reports

  module _ (alike : reply_by the_judge ledger i step ≡ reply) where
    -- After the same reply they stand beside each other;
    pub beside_after : Beside m n (words_by the_register words i step) (words_by the_judge ledger i step)
    beside_after = record {
      asks = _;
      history = _;
      run = stepped asked beside.run promise;
      says = subst (λ said. Says m n (words_by the_judge ledger i step) (note_reply beside.history i (plain_sheet step.code) step.value said)) alike
          (says_after beside.says i step.code step.value);
    }
      where
        asked : Ask ℕ
        asked = record { handler = i; code = step.code; value = step.value }

    -- the judge has one commit more where the reply reports one,
    counts_after : commits_noted (words_by the_judge ledger i step) ≡ counted (commits_noted ledger) reply
    counts_after = judge_counts beside.says.ledger i step.code step.value ∙ ap (counted (commits_noted ledger)) alike

    -- and then room for one less,
    pub room_committed : (room : ℕ) → reports_commit reply ≡ true → Room (suc room) ledger → Room room (words_by the_judge ledger i step)
    room_committed room reports has =
        let one_more : commits_noted (words_by the_judge ledger i step) ≡ suc (commits_noted ledger) = counts_after ∙ rw reports in
        omega (arith, has, one_more)

    -- and else for as many.
    pub room_kept : (room : ℕ) → reports_commit reply ≡ false → Room room ledger → Room room (words_by the_judge ledger i step)
    room_kept room reports has =
        let as_many : commits_noted (words_by the_judge ledger i step) ≡ commits_noted ledger = counts_after ∙ rw reports in
        omega (arith, has, as_many)
