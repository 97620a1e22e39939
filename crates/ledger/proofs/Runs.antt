-- The words of the judge say the history of its own replies, so each reply is what that history tells.
use Prim.Native.Nat.{ℕ}
use mathlib.Core.Path.{◌≡◌, sym, ap, ap₂, ◌∙◌, subst₂}
use mathlib.Core.List.{List}
use lib.ListN.{length}
use Rattle.rules.specs.steps.Codes.{plain_sheet}
use Rattle.rules.specs.history.History.{History, note_reply}
use Rattle.rules.specs.demand.Demand.{Ask}
use Rattle.rules.specs.demand.Judge.{judgement}
use Rattle.rules.proofs.history.Alike.{SameHistory, history_trans, length_same, judgement_same}
use Rattle.rules.proofs.history.AlikeNotes.{note_same}
use Rattle.layout.specs.Places.{cells_of, handlers_of}
use Rattle.layout.specs.View.{word_setting}
use Rattle.ledger.specs.Entries.{commits_noted}
use Rattle.ledger.specs.Histories.{history_in}
use Rattle.ledger.specs.Noting.{note_words}
use Rattle.ledger.specs.Promises.{limited, judged_reply}
use Rattle.ledger.specs.Runs.{JudgedRun, opened, stepped, JudgeTells}
use Rattle.ledger.proofs.Histories.{Says}
use Rattle.ledger.proofs.Commits.{commits_count}
use Rattle.ledger.proofs.Faithful.{Keeps}
use Rattle.ledger.proofs.Steps.{reply_limited, reply_noted, reply_keeps}
use Rattle.ledger.proofs.Opened.{ledger_ready}

-- Words that say a history note as many commits as it has.
pub says_count : {m n : ℕ} {words : List ℕ} {h : History ℕ} → Says m n words h → commits_noted words ≡ length h.commits
unfolding history_in
says_count {words = words} says = sym (length_same says.same.commits ∙ commits_count (cells_of words) words (commits_noted words))

module _ {m n : ℕ} {words : List ℕ} {h : History ℕ} (says : Says m n words h) (i code : ℕ) where
  -- The reply is what the history tells, within the limit.
  pub says_reply : judged_reply words i code ≡ limited (commits_noted words) (judgement (word_setting m) n h i code)
  says_reply = reply_limited says.ledger i code ∙ ap (limited (commits_noted words)) (counted ∙ sym (judgement_same (word_setting m) says.same i n code))
    where
      counted : judgement (word_setting (cells_of words)) (handlers_of words) (history_in words) i code ≡ judgement (word_setting m) n
          (history_in words) i code
      counted = ap₂ (λ cells handlers. judgement (word_setting cells) handlers (history_in words) i code) says.cells says.handlers

  -- The words afterwards say the history with the reply noted.
  pub says_after : (v : ℕ) → Says m n (note_words words i (plain_sheet code) v (judged_reply words i code))
      (note_reply h i (plain_sheet code) v (judged_reply words i code))
  says_after v = record {
    ledger = keeps.ledger;
    cells = keeps.cells ∙ says.cells;
    handlers = keeps.handlers ∙ says.handlers;
    same = history_trans (note_same says.same i (plain_sheet code) v (judged_reply words i code)) here;
  }
    where
      keeps : Keeps words (note_words words i (plain_sheet code) v (judged_reply words i code))
      keeps = reply_keeps says.ledger i code v

      here : SameHistory (note_reply (history_in words) i (plain_sheet code) v (judged_reply words i code))
          (history_in (note_words words i (plain_sheet code) v (judged_reply words i code)))
      here = reply_noted says.ledger i code v

-- So do the words of every run.
pub run_says : {m n : ℕ} {asks : List (Ask ℕ)} {words : List ℕ} {h : History ℕ} → JudgedRun m n asks words h → Says m n words h
run_says (opened promise) = ledger_ready promise
run_says {m} {n} (stepped {words = words} {h = h} a run promise) =
    let next = says_after (run_says run) a.handler a.code a.value in
    subst₂ (λ left reply. Says m n left (note_reply h a.handler (plain_sheet a.code) a.value reply))
    (sym promise.left) (sym promise.replied) next

-- The judge tells what the history does.
pub judge_tells : JudgeTells
judge_tells m n asks words h run i code v reply after promise =
    let says = run_says run in
    promise.replied ∙ says_reply says i code ∙ ap (λ count. limited count (judgement (word_setting m) n h i code)) (says_count says)
