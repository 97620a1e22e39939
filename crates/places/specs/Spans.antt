-- For internal contracts alone: what our own functions are called with and leave. Nothing here need be believed.
-- A part of the words by its first place and the place behind it.
use Rattle.std.specs.Prelude.{ℕ, ◌+◌, ◌≡◌}

-- From the first place to the place behind the last of so many words.
pub record Spans (first long from to : ℕ) : Type 0 where
  pub starts : from ≡ first
  pub ends : to ≡ first + long
