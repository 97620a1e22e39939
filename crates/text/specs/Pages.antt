-- A text that is put on a page, which carries the lent buffer and the place up to which it is filled. Whoever puts a text ensures besides
-- that the page is over the same buffer still, so that its lender knows what became of it.
use Rattle.std.specs.Prelude.{ℕ, ◌≡◌, List}
use Rattle.text.specs.declared.Page.{Page}
use Rattle.text.specs.Lies.{Puts}

-- A text is put on a page: behind what stands there, into the same buffer.
pub record Writes (text : List ℕ) (before after : Page) : Type 0 where
  pub same : after.buffer.ghost_name ≡ before.buffer.ghost_name
  pub puts : Puts text before.end after.end before.buffer.now after.buffer.now
