-- The third demand of words: what is true after every run of words, of the words, of the replies that a next step can get, and
-- of the history of the replies on the way. No table of the rules is spoken of, only words.
use Rattle.std.specs.Prelude.{ℕ, ◌+◌, ◌<◌, ◌≡◌, true, List, ◌↔◌, get_or}
use Rattle.rules.specs.steps.Tables.{LowestOf}
use Rattle.rules.specs.steps.Codes.{known, try, plain_sheet}
use Rattle.rules.specs.steps.Replies.{torn, overtaken, spent, Content, unset, aborted, Reply}
use Rattle.rules.specs.steps.Figure.{version_shows}
use Rattle.rules.specs.history.History.{History, writer}
use Rattle.rules.specs.history.Past.{Tears, up_to}
use Rattle.rules.specs.history.Replay.{Legal}
use Rattle.rules.specs.demand.Demand.{Ask, reported_to, FirstRead}
use Rattle.rules.specs.demand.Judge.{number_among, judgement, Overtaken, Exhausted}
use Rattle.layout.specs.Rows.{below}
use Rattle.layout.specs.Places.{body_of, cell_start}
use Rattle.layout.specs.View.{word_setting}
use Rattle.promises.specs.Stepping.{StepPromise}
use Rattle.promises.specs.Runs.{WordRun}

-- The cell x's number for y, which stands behind the value.
abbrev pub number_word : ℕ → List ℕ → ℕ → ℕ → ℕ
number_word m words x y = get_or (body_of words) (cell_start m x + (1 + y)) 0

-- What each of m cells holds: nothing where its own number is 0, and else its value, the first of the cell's words; nothing beyond the cells.
unfoldable pub cell_contents : ℕ → List ℕ → ℕ → Content ℕ
cell_contents m words = below m unset (λ x. version_shows (number_word m words x x) (get_or (body_of words) (cell_start m x) 0))

-- Words and a history agree with the third demand:
pub record WordsConsistent (m n : ℕ) (words : List ℕ) (h : History ℕ) : Type 0 where
  -- (a) and (b), with what the cells hold as the table that the history leads to;
  pub legal : Legal h (cell_contents m words)
  -- (c) a first read is answered abort 1 and names the cell y exactly when y is the lowest cell already read of which the writer of the
  -- present value, or a commit in that writer's causal past, wrote a later version than the one read;
  pub torn_exactly : {i code x v : ℕ} (y : ℕ) {reply : Reply ℕ} {after : List ℕ}
      → FirstRead (word_setting m) n h i code x → StepPromise words i code v reply after
      → (reply ≡ reported_to i code (aborted (torn y))) ↔ LowestOf (Tears h.commits (h.now i) (writer h.commits x)) y
  -- besides, each reply, refused or reported, is what the history alone tells;
  pub replies : {i code v : ℕ} {reply : Reply ℕ} {after : List ℕ} → StepPromise words i code v reply after
      → reply ≡ judgement (word_setting m) n h i code
  -- a try is answered abort 2 and names the cell y exactly when y is the lowest cell of which the version read is no longer the present one;
  pub overtaken_exactly : {i code v : ℕ} (y : ℕ) {reply : Reply ℕ} {after : List ℕ} → i < n → plain_sheet code ≡ known try → h.opened i ≡ true
      → StepPromise words i code v reply after
      → (reply ≡ reported_to i code (aborted (overtaken y))) ↔ LowestOf (Overtaken h.commits (h.now i)) y
  -- abort 3 and the cell y, exactly when there is no such cell, and y is the lowest one written that has had 65,535 versions;
  pub spent_exactly : {i code v : ℕ} (y : ℕ) {reply : Reply ℕ} {after : List ℕ} → i < n → plain_sheet code ≡ known try → h.opened i ≡ true
      → StepPromise words i code v reply after
      → (reply ≡ reported_to i code (aborted (spent y)))
      ↔ (((z : ℕ) → Overtaken h.commits (h.now i) z → ⊥) × LowestOf (Exhausted h.commits (h.now i)) y)
  -- and a cell's number for y is that of the latest version of y in the cell's writer and that one's past
  pub numbers : (x y : ℕ) → x < m → y < m
      → number_word m words x y ≡ number_among h.commits (up_to h.commits (writer h.commits x)) y

-- THE THIRD DEMAND OF WORDS, of every m and n, all words that are opened, and every list of steps.
abbrev pub WordsInherit : Type 0
WordsInherit = (m n : ℕ) (asks : List (Ask ℕ)) (words : List ℕ) (h : History ℕ)
    → WordRun m n asks words h → WordsConsistent m n words h
