-- Runs of words: some words are opened, and then any steps are asked for, each of which keeps its promise. The history of a run
-- is noted from what is asked for and what is replied; no word is looked at, and nothing is assumed of what the words say.
use Rattle.std.specs.Prelude.{ℕ, List, [], ◌∷◌, ◌++◌}
use Rattle.rules.specs.steps.Codes.{plain_sheet}
use Rattle.rules.specs.steps.Replies.{Reply, ready}
use Rattle.rules.specs.history.History.{History, no_history, note_reply}
use Rattle.rules.specs.demand.Demand.{Ask}
use Rattle.promises.specs.Opening.{OpeningPromise}
use Rattle.promises.specs.Stepping.{StepPromise}

-- The history after a step was asked for and got its reply.
abbrev pub noted : History ℕ → Ask ℕ → Reply ℕ → History ℕ
noted h a reply = note_reply h a.handler (plain_sheet a.code) a.value reply

-- A run of words for m cells and n handlers: the steps asked for, the first one first, the words that they left, and the history.
pub data WordRun (m n : ℕ) : List (Ask ℕ) → List ℕ → History ℕ → Type 0 where
  -- any words are opened, and ready;
  opened : {words after : List ℕ} → OpeningPromise words m n ready after → WordRun m n [] after no_history
  -- one more step is asked for, by any handler and any code, and keeps its promise
  stepped : {asks : List (Ask ℕ)} {words after : List ℕ} {h : History ℕ} {reply : Reply ℕ} (a : Ask ℕ)
      → WordRun m n asks words h → StepPromise words a.handler a.code a.value reply after
      → WordRun m n (asks ++ (a ∷ [])) after (noted h a reply)
