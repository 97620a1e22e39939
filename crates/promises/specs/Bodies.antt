-- For internal contracts alone: what our own functions are called with and leave. Nothing here need be believed.
-- What a turn promises of a register's body, whatever stands in front of it and under every code sheet: its reply, and every word of the
-- body afterwards.
use Rattle.std.specs.Prelude.{ℕ, true, List}
use Rattle.rules.specs.Promise.{Due, Promise}
use Rattle.rules.specs.steps.Codes.{Sheet}
use Rattle.rules.specs.steps.Replies.{Reply, reported}
use Rattle.rules.specs.steps.Register.{numbers_under, Register}
use Rattle.rules.specs.steps.Turn.{Turn, turn}
use Rattle.layout.specs.View.{view, holding}

-- The rules' turn on the register that a good body says.
unfoldable pub body_turn : Sheet → ℕ → ℕ → List ℕ → ℕ → ℕ → ℕ → Turn ℕ
body_turn sheet m n body handler code value = turn (numbers_under sheet m) n true (view m n body) handler code value

-- The body after a step: a refusal changes nothing, and else it is that of the rules' register.
unfoldable pub body_words : ℕ → ℕ → List ℕ → Reply ℕ → Register ℕ → List ℕ
body_words m n body (Reply.refused refusal) r = body
body_words m n body (reported report) r = holding body m n r

-- What a turn is given: m, n and the body, the handler that asks, a code, and a value where it is a write.
pub record TurnCall : Type 0 where
  pub cells : ℕ
  pub handlers : ℕ
  pub body : List ℕ
  pub handler : ℕ
  pub code : ℕ
  pub value : ℕ

-- What a turn comes to under a sheet.
abbrev pub turning : Sheet → TurnCall → Due (Reply ℕ) (List ℕ)
turning sheet call =
    let t = body_turn sheet call.cells call.handlers call.body call.handler call.code call.value in
    record { reply = t.reply; leaves = body_words call.cells call.handlers call.body t.reply t.after }

-- The promise of a turn on a body.
abbrev pub BodyPromise : Sheet → ℕ → ℕ → List ℕ → ℕ → ℕ → ℕ → Reply ℕ → List ℕ → Type 0
BodyPromise sheet m n body handler code value reply after =
    Promise (turning sheet) (record { cells = m; handlers = n; body = body; handler = handler; code = code; value = value }) reply after
