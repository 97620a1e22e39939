-- What the judge tells: after any steps from an opening, each reply is what the history tells that was noted from the steps asked
-- for and the replies alone, within the limit of 64 commits. Nothing but the judge's promises is assumed of it.
use Rattle.std.specs.Prelude.{ℕ, ◌≡◌, List, [], ◌∷◌, ◌++◌, length}
use Rattle.rules.specs.steps.Replies.{Reply, ready}
use Rattle.rules.specs.history.History.{History, no_history}
use Rattle.rules.specs.demand.Demand.{Ask}
use Rattle.rules.specs.demand.Judge.{judgement}
use Rattle.layout.specs.View.{word_setting}
use Rattle.promises.specs.Runs.{noted}
use Rattle.ledger.specs.Promises.{LedgerPromise, limited, JudgedPromise}

-- A run of the judge for m cells and n handlers: the steps asked for, the first one first, the words that they left, and the history.
pub data JudgedRun (m n : ℕ) : List (Ask ℕ) → List ℕ → History ℕ → Type 0 where
  -- any words are opened, and ready;
  opened : {words after : List ℕ} → LedgerPromise words m n ready after → JudgedRun m n [] after no_history
  -- one more step is asked for, by any handler and any code, and keeps its promise
  stepped : {asks : List (Ask ℕ)} {words after : List ℕ} {h : History ℕ} {reply : Reply ℕ} (a : Ask ℕ)
      → JudgedRun m n asks words h → JudgedPromise words a.handler a.code a.value reply after
      → JudgedRun m n (asks ++ (a ∷ [])) after (noted h a reply)

-- THE JUDGE TELLS what the history does, of every m and n, all words that are opened, and every list of steps.
abbrev pub JudgeTells : Type 0
JudgeTells = (m n : ℕ) (asks : List (Ask ℕ)) (words : List ℕ) (h : History ℕ) → JudgedRun m n asks words h
    → (i code v : ℕ) (reply : Reply ℕ) (after : List ℕ) → JudgedPromise words i code v reply after
    → reply ≡ limited (length h.commits) (judgement (word_setting m) n h i code)
