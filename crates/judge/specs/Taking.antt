-- For internal contracts alone: what our own functions are called with and leave. Nothing here need be believed.
-- What the judge's steps require, and that they answer and note as the rules' definitions say.
use Rattle.std.specs.Prelude.{ℕ, ◌<◌, ◌≡◌, true, List}
use Rattle.rules.specs.steps.Codes.{Step, known}
use Rattle.rules.specs.steps.Replies.{Outcome, Reply}
use Rattle.rules.specs.steps.Given.{Within, phase_for}
use Rattle.rules.specs.demand.Demand.{reported_to}
use Rattle.rules.specs.demand.Judge.{answer}
use Rattle.layout.specs.Places.{cells_of, handlers_of}
use Rattle.layout.specs.View.{word_setting}
use Rattle.ledger.specs.Entries.{Ledger, commits_noted, most_commits}
use Rattle.ledger.specs.Histories.{history_in}
use Rattle.ledger.specs.Noting.{note_outcome, note_words}
use Rattle.ledger.specs.Promises.{is_commit, limited}

-- The answer to a step of handler i, by the history that the words say.
abbrev pub answer_of : List ℕ → ℕ → Step → Outcome ℕ
answer_of words i s = answer (word_setting (cells_of words)) (history_in words) i s

-- The words are a ledger of m cells, and no check refuses the step s of handler i.
pub record JudgeReady (words : List ℕ) (m i : ℕ) (s : Step) : Type 0 where
  pub ledger : Ledger words
  pub cells : m ≡ cells_of words
  pub handler : i < handlers_of words
  pub cell : Within (cells_of words) s
  pub phase : (history_in words).opened i ≡ phase_for s

-- If the step is a commit, there is room for one more.
abbrev pub HasRoom : List ℕ → ℕ → Step → Type 0
HasRoom words i s = is_commit (answer_of words i s) ≡ true → commits_noted words < most_commits

-- Besides, there is room for what it comes to.
pub record Able (words : List ℕ) (m i : ℕ) (s : Step) : Type 0 where
  pub ready : JudgeReady words m i s
  pub room : HasRoom words i s

-- The step is answered as the history says, and noted.
pub record TakesNoted (words : List ℕ) (i : ℕ) (s : Step) (value : ℕ) (outcome : Outcome ℕ) (after : List ℕ) : Type 0 where
  pub replied : outcome ≡ answer_of words i s
  pub left : after ≡ note_outcome words i s value (answer_of words i s)

-- The step is answered so within the limit, and the reply noted.
pub record Passes (words : List ℕ) (i code : ℕ) (s : Step) (value : ℕ) (reply : Reply ℕ) (after : List ℕ) : Type 0 where
  pub replied : reply ≡ limited (commits_noted words) (reported_to i code (answer_of words i s))
  pub left : after ≡ note_words words i (known s) value (limited (commits_noted words) (reported_to i code (answer_of words i s)))
