-- What the player that is known promises, the player that is named promises.
use Prim.Native.Nat.{ℕ}
use mathlib.Core.Path.{◌≡◌}
use mathlib.Core.List.{List}
use mathlib.Core.Option.{Option}
use Rattle.rules.specs.steps.Replies.{Reply, Opening}
use Rattle.replies.specs.Ends.{CellLine}
use Rattle.runs.specs.declared.Player as Code
use Rattle.runs.specs.Players.{player_is, PlayerOpeningPromise, PlayerStepPromise, PlayerEndPromise}

module _ {player known : Code.Player} {words : List ℕ} (is : player ≡ known) where
  -- So it is of an opening,
  pub opens_as : {m n : ℕ} {reply : Opening} {after : List ℕ} → PlayerOpeningPromise (player_is known) words m n reply after
      → PlayerOpeningPromise (player_is player) words m n reply after
  opens_as promise = rw is promise

  -- of a step,
  pub steps_as : {handler code value : ℕ} {reply : Reply ℕ} {after : List ℕ}
      → PlayerStepPromise (player_is known) words handler code value reply after
      → PlayerStepPromise (player_is player) words handler code value reply after
  steps_as promise = rw is promise

  -- and of a cell's end.
  pub shows_as : {c : ℕ} {reply : Option CellLine} → PlayerEndPromise (player_is known) words c reply
      → PlayerEndPromise (player_is player) words c reply
  shows_as promise = rw is promise
