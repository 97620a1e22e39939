-- Who answers the steps of a run: the register or the judge, each from words of its own and as its own promises say.
use Rattle.std.specs.Prelude.{ℕ, List}
use Rattle.std.proofs.Math.Option.{Option}
use Rattle.rules.specs.Promise.{Due, Promise}
use Rattle.rules.specs.steps.Replies.{Reply, Opening}
use Rattle.promises.specs.Opening as Openings
use Rattle.promises.specs.Opening.{OpeningCall}
use Rattle.promises.specs.Stepping as Steppings
use Rattle.promises.specs.Stepping.{StepCall}
use Rattle.replies.specs.Ends.{CellLine, EndCall}
use Rattle.ledger.specs.Promises.{opening_ledger, judging}
use Rattle.schedule.specs.Scripts.{ScriptStep}
use Rattle.register.specs.Ending as Endings
use Rattle.judge.specs.Ending.{judged_showing}
use Rattle.runs.specs.declared.Player as Code
use Rattle.runs.specs.declared.Player.TheVariants.{Register, Judge}

-- A player is three operations on the words that it keeps:
pub record Player : Type 0 where
  -- opened for m cells and n handlers,
  pub opening : OpeningCall → Due Opening (List ℕ)
  -- asked for a handler's step,
  pub stepping : StepCall → Due (Reply ℕ) (List ℕ)
  -- and asked to show a cell
  pub showing : EndCall → Due (Option CellLine) Unit

-- The register answers as its promises say.
abbrev pub the_register : Player
the_register = record { opening = Openings.opening; stepping = Steppings.stepping; showing = Endings.showing }

-- The judge answers as its promises say.
abbrev pub the_judge : Player
the_judge = record { opening = opening_ledger; stepping = judging; showing = judged_showing }

-- The player that is named.
abbrev pub player_is : Code.Player → Player
player_is Register = the_register
player_is Judge = the_judge

-- The promise of opening a player's words.
abbrev pub PlayerOpeningPromise : Player → List ℕ → ℕ → ℕ → Opening → List ℕ → Type 0
PlayerOpeningPromise player words m n reply after =
    Promise player.opening (record { words = words; cells = m; handlers = n }) reply after

-- The promise of a step that is asked of a player.
abbrev pub PlayerStepPromise : Player → List ℕ → ℕ → ℕ → ℕ → Reply ℕ → List ℕ → Type 0
PlayerStepPromise player words handler code value reply after =
    Promise player.stepping (record { words = words; handler = handler; code = code; value = value }) reply after

-- The promise of a cell's end.
abbrev pub PlayerEndPromise : Player → List ℕ → ℕ → Option CellLine → Type 0
PlayerEndPromise player words c reply = Promise player.showing (record { words = words; cell = c }) reply tt

-- What a player comes to, asked for a handler's step of a script.
abbrev pub turn_by : Player → List ℕ → ℕ → ScriptStep → Due (Reply ℕ) (List ℕ)
turn_by player words handler step =
    player.stepping (record { words = words; handler = handler; code = step.code; value = step.value })

-- Its reply,
abbrev pub reply_by : Player → List ℕ → ℕ → ScriptStep → Reply ℕ
reply_by player words handler step = (turn_by player words handler step).reply

-- and the words that it leaves.
abbrev pub words_by : Player → List ℕ → ℕ → ScriptStep → List ℕ
words_by player words handler step = (turn_by player words handler step).leaves
