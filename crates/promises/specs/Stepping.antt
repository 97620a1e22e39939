-- What a step promises, for all words, handlers, codes and values: its reply, and every word afterwards.
use Rattle.std.specs.Prelude.{ℕ, ◌≡◌, List}
use Rattle.rules.specs.Promise.{Due, Promise}
use Rattle.rules.specs.steps.Replies.{Refusal, Reply, reported}
use Rattle.rules.specs.steps.Register.{Register}
use Rattle.rules.specs.steps.Codes.{Step}
use Rattle.rules.specs.steps.Checks.{Asked}
use Rattle.rules.specs.steps.Given.{Free}
use Rattle.rules.specs.steps.Figure.{Result, step}
use Rattle.rules.specs.steps.Turn.{Turn, taken_turn, refused_turn, asked, turn}
use Rattle.layout.specs.Places.{cells_of, handlers_of}
use Rattle.layout.specs.View.{word_setting, viewed, register_in}
use Rattle.layout.specs.WellFormed.{is_well_formed}

-- What is asked of the register that the words say.
abbrev pub asked_of : List ℕ → ℕ → ℕ → Asked
asked_of words handler code =
    asked (word_setting (cells_of words)) (handlers_of words) (is_well_formed words) (viewed words) handler code

-- The rules' result of a step on the register that the words say.
abbrev pub result_of : List ℕ → ℕ → Step → ℕ → Result ℕ
result_of words handler s value = step (word_setting (cells_of words)) (viewed words) handler s value

-- The rules' turn on the register that the words say.
unfoldable pub turn_of : List ℕ → ℕ → ℕ → ℕ → Turn ℕ
turn_of words handler code value =
    turn (word_setting (cells_of words)) (handlers_of words) (is_well_formed words) (viewed words) handler code value

-- The words after a step: a refusal changes nothing, and else they hold the rules' register.
unfoldable pub step_words : List ℕ → Reply ℕ → Register ℕ → List ℕ
step_words words (Reply.refused refusal) r = words
step_words words (reported report) r = register_in words (cells_of words) (handlers_of words) r

-- What a step is given: words, the handler that asks, a code, and a value where it is a write.
pub record StepCall : Type 0 where
  pub words : List ℕ
  pub handler : ℕ
  pub code : ℕ
  pub value : ℕ

-- What a step comes to.
abbrev pub stepping : StepCall → Due (Reply ℕ) (List ℕ)
stepping call =
    let t = turn_of call.words call.handler call.code call.value in
    record { reply = t.reply; leaves = step_words call.words t.reply t.after }

-- The promise of a step.
abbrev pub StepPromise : List ℕ → ℕ → ℕ → ℕ → Reply ℕ → List ℕ → Type 0
StepPromise words handler code value reply after =
    Promise stepping (record { words = words; handler = handler; code = code; value = value }) reply after

-- ── Refused or taken ──────────────────────────────────────────────────

-- A step that is refused: the words are as they were.
pub record Stopped (words : List ℕ) (handler code value : ℕ) (after : List ℕ) : Type 0 where
  pub refusal : Refusal
  pub turn : turn_of words handler code value ≡ refused_turn (viewed words) refusal
  pub unchanged : after ≡ words

-- A step that is taken: the words were well formed, and the rules' register stands in front of them.
pub record Taken (words : List ℕ) (handler code value : ℕ) (after : List ℕ) : Type 0 where
  pub what : Step
  pub free : Free (asked_of words handler code) what
  pub turn : turn_of words handler code value
      ≡ taken_turn (word_setting (cells_of words)) (viewed words) handler code value what
  pub holds : after ≡ register_in words (cells_of words) (handlers_of words) (result_of words handler what value).after
