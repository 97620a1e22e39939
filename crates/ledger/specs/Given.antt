-- When the judge gives each refusal of a step, said number by number beside its reply, and when it gives each abort that names a cell;
-- proofs/Exactly.antt shows that the reply gives each exactly then.
use Rattle.std.specs.Prelude.{ℕ, ◌<◌, ◌≡◌, true, List, ◌↔◌}
use Rattle.rules.specs.steps.Tables.{LowestOf}
use Rattle.rules.specs.steps.Codes.{known, try, plain_sheet}
use Rattle.rules.specs.steps.Replies.{torn, overtaken, spent, committed, aborted, Refusal, not_well_formed, too_many_commits, Reply}
use Rattle.rules.specs.steps.Given.{Given}
use Rattle.rules.specs.history.History.{writer}
use Rattle.rules.specs.history.Past.{Tears}
use Rattle.rules.specs.demand.Demand.{reported_to, FirstRead}
use Rattle.rules.specs.demand.Judge.{asked_by_history, judgement, Overtaken}
use Rattle.layout.specs.Places.{cells_of, handlers_of}
use Rattle.layout.specs.View.{word_setting}
use Rattle.ledger.specs.Entries.{most_commits, commits_noted, Ledger}
use Rattle.ledger.specs.Histories.{history_in}
use Rattle.ledger.specs.Promises.{judged_reply}

-- What the history alone says of a step.
abbrev pub told_by : List ℕ → ℕ → ℕ → Reply ℕ
told_by words i code = judgement (word_setting (cells_of words)) (handlers_of words) (history_in words) i code

-- When a step is refused with each number:
pub data JudgeGiven (words : List ℕ) (i code : ℕ) : Refusal → Type 0 where
  -- 10 where the words are no ledger,
  no_ledger : (Ledger words → ⊥) → JudgeGiven words i code not_well_formed
  -- each number that the rules give where they are one, as the history tells what is asked,
  by_rules : {refusal : Refusal} → Ledger words
      → Given (asked_by_history (word_setting (cells_of words)) (handlers_of words) (history_in words) i code) refusal
      → JudgeGiven words i code refusal
  -- and 33 where they are one, 64 commits are noted, and the history alone says that the step commits
  no_room : Ledger words → commits_noted words ≡ most_commits → told_by words i code ≡ reported_to i code committed
      → JudgeGiven words i code too_many_commits

-- When a step of these words is aborted, and which cell is named, by the history that they say:
pub record JudgeAborts (words : List ℕ) : Type 0 where
  -- a first read is answered abort 1 and the cell y exactly when y is the lowest cell already read of which the writer of the present
  -- value, or a commit in that writer's causal past, wrote a later version than the one read;
  pub torn_exactly : (i code x y : ℕ) → FirstRead (word_setting (cells_of words)) (handlers_of words) (history_in words) i code x
      → (judged_reply words i code ≡ reported_to i code (aborted (torn y)))
      ↔ LowestOf (Tears (history_in words).commits ((history_in words).now i) (writer (history_in words).commits x)) y
  -- a try of an open transaction abort 2 and the cell y exactly when y is the lowest cell of which the version read is no longer the
  -- present one, also where 64 commits are noted;
  pub overtaken_exactly : (i code y : ℕ) → i < handlers_of words → plain_sheet code ≡ known try → (history_in words).opened i ≡ true
      → (judged_reply words i code ≡ reported_to i code (aborted (overtaken y)))
      ↔ LowestOf (Overtaken (history_in words).commits ((history_in words).now i)) y
  -- and nothing is answered abort 3, whatever the cell
  pub never_spent : (i code y : ℕ) → judged_reply words i code ≡ reported_to i code (aborted (spent y)) → ⊥
