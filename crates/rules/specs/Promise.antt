-- The shape of every promise. A public operation is a definition that says, for whatever it is given, what it replies and what it
-- leaves in what was lent to it; its promise is that it does so. proofs/Determined.antt says once that a promise allows one outcome.
use Rattle.std.specs.Prelude.{◌≡◌}

-- What an operation comes to: its reply, and what it leaves.
pub record Due (Reply Left : Type 0) : Type 0 where
  pub reply : Reply
  pub leaves : Left

-- The promise of an operation, of what it is given: the reply, and what is left.
pub record Promise {Given Reply Left : Type 0} (operation : Given → Due Reply Left) (given : Given) (reply : Reply) (after : Left)
    : Type 0 where
  pub replied : reply ≡ (operation given).reply
  pub left : after ≡ (operation given).leaves

-- An operation that is lent nothing: it replies, and nothing is left.
abbrev pub answering : {Given Reply : Type 0} → (Given → Reply) → Given → Due Reply Unit
answering answer given = record { reply = answer given; leaves = tt }
