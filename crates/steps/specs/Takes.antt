-- For internal contracts alone: what our own functions are called with and leave. Nothing here need be believed.
-- What the steps over a whole body of m cells and n handlers require, and that they take the rules' step.
use Rattle.std.specs.Prelude.{ℕ, ◌≤◌, ◌<◌, ◌≡◌, false, List}
use Rattle.rules.specs.steps.Codes.{Step, read}
use Rattle.rules.specs.steps.Replies.{Outcome}
use Rattle.rules.specs.steps.Given.{Within, phase_for}
use Rattle.rules.specs.steps.Figure.{step, committing}
use Rattle.layout.specs.Bits.{bit}
use Rattle.layout.specs.View.{word_setting, view, holding}
use Rattle.layout.specs.WellFormed.{GoodBody, PhasesTo}

-- A good body of at most 32 cells.
pub record Formed (m n : ℕ) (body : List ℕ) : Type 0 where
  pub good : GoodBody m n body
  pub few : m ≤ 32

-- Besides, there is a handler i.
pub record Seated (m n : ℕ) (body : List ℕ) (i : ℕ) : Type 0 where
  pub formed : Formed m n body
  pub handler : i < n
  pub low : i < 16

-- Besides, the step s names no cell beyond and finds the handler in its phase.
pub record Ready (m n : ℕ) (body : List ℕ) (i : ℕ) (s : Step) : Type 0 where
  pub seated : Seated m n body i
  pub cell : Within m s
  pub phase : ((view m n body).handlers i).phase ≡ bit (phase_for s)

-- Besides, cell x is in neither set.
pub record Unread (m n : ℕ) (body : List ℕ) (i x : ℕ) : Type 0 where
  pub ready : Ready m n body i (read x)
  pub unread : ((view m n body).handlers i).read_set x ≡ false
  pub unwritten : ((view m n body).handlers i).written_set x ≡ false

-- The rules' outcome, and the body of the rules' register.
pub record Takes (m n : ℕ) (body : List ℕ) (i : ℕ) (s : Step) (value : ℕ) (outcome : Outcome ℕ) (after : List ℕ) : Type 0 where
  pub replied : outcome ≡ (step (word_setting m) (view m n body) i s value).outcome
  pub left : after ≡ holding body m n (step (word_setting m) (view m n body) i s value).after

-- The body of the rules' register after a commit.
abbrev pub Commits : ℕ → ℕ → List ℕ → ℕ → List ℕ → Type 0
Commits m n body i after = after ≡ holding body m n (committing (word_setting m) (view m n body) i ((view m n body).handlers i))

-- A good body of at most 32 cells and 16 handlers that are idle or open.
pub record WholeBody (m n : ℕ) (body : List ℕ) : Type 0 where
  pub formed : Formed m n body
  pub most : n ≤ 16
  pub phases : PhasesTo 1 m n body
