-- What the question whether m and n are in range promises, for all m and n.
use Rattle.std.specs.Prelude.{ℕ, Bool}
use Rattle.rules.specs.Promise.{Promise, answering}
use Rattle.rules.specs.steps.Checks.{in_range}

-- What the question is given.
pub record RangeCall : Type 0 where
  pub cells : ℕ
  pub handlers : ℕ

-- The promise of the range.
abbrev pub RangePromise : ℕ → ℕ → Bool → Type 0
RangePromise m n reply = Promise (answering (λ (call : RangeCall). in_range call.cells call.handlers)) (record { cells = m; handlers = n }) reply tt
