-- What an operation promises is promised of numbers, where the number is that of its reply.
use Prim.Native.Nat.{ℕ}
use mathlib.Core.Path.{◌≡◌, ap, ◌∙◌}
use Rattle.rules.specs.Promise.{Due, Promise}
use Rattle.gateway.specs.Packed.{in_numbers}

-- The promise of an operation, said of a number.
pub numbered : {Given Reply Left : Type 0} {operation : Given → Due Reply Left} {given : Given} {reply : Reply} {left : Left}
    (number : Reply → ℕ) → Promise operation given reply left → {n : ℕ} → n ≡ number reply → Promise (in_numbers number operation) given n left
numbered number p said = record { replied = said ∙ ap number p.replied; left = p.left }
