-- What opening promises, for all words, m and n: its reply, and every word afterwards.
use Rattle.std.specs.Prelude.{ℕ, List, length}
use Rattle.std.proofs.Math.Option.{Option, none, some}
use Rattle.rules.specs.Promise.{Due, Promise}
use Rattle.rules.specs.steps.Replies.{Refusal, Opening, ready}
use Rattle.rules.specs.steps.Register.{fresh}
use Rattle.rules.specs.steps.Checks.{first_hit, opening_checks}
use Rattle.layout.specs.Places.{size}
use Rattle.layout.specs.View.{word_setting, register_in}

-- What the checks of an opening say of it.
unfoldable pub opening_refusal : List ℕ → ℕ → ℕ → Option Refusal
opening_refusal words m n = first_hit (opening_checks m n (length words) (size m n))

-- The reply to an opening.
unfoldable pub opening_reply : Option Refusal → Opening
opening_reply (some refusal) = Opening.refused refusal
opening_reply none = ready

-- The words after an opening: a refusal changes nothing, and else they hold a fresh register.
unfoldable pub opening_words : List ℕ → ℕ → ℕ → Option Refusal → List ℕ
opening_words words m n (some refusal) = words
opening_words words m n none = register_in words m n (fresh (word_setting m))

-- What opening is given: words, and the numbers of cells and handlers.
pub record OpeningCall : Type 0 where
  pub words : List ℕ
  pub cells : ℕ
  pub handlers : ℕ

-- What opening comes to.
abbrev pub opening : OpeningCall → Due Opening (List ℕ)
opening call =
    let refusal = opening_refusal call.words call.cells call.handlers in
    record { reply = opening_reply refusal; leaves = opening_words call.words call.cells call.handlers refusal }

-- The promise of opening.
abbrev pub OpeningPromise : List ℕ → ℕ → ℕ → Opening → List ℕ → Type 0
OpeningPromise words m n reply after = Promise opening (record { words = words; cells = m; handlers = n }) reply after
