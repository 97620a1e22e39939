-- A text in a buffer: as much of it as there is room for stands in front, and what lies behind is untouched. So C's snprintf leaves a
-- buffer, and it answers how long the whole text is.
use Rattle.std.specs.Prelude.{ℕ, ◌+◌, ◌≡◌, List, [], ◌∷◌, ◌++◌, length}
use Rattle.rules.specs.Promise.{Due}

-- The buffer with a text over it.
unfoldable pub over : List ℕ → List ℕ → List ℕ
over [] space = space
over (byte ∷ text) [] = []
over (byte ∷ text) (was ∷ space) = byte ∷ over text space

-- What putting a text into a lent buffer comes to, as with C's snprintf: the reply is the length of the whole text; the buffer begins with
-- as much of it as fits, and the bytes behind are untouched.
abbrev pub putting : List ℕ → List ℕ → Due ℕ (List ℕ)
putting text buffer = record { reply = length text; leaves = over text buffer }

-- Bytes are put at a place of a buffer, and end at another: as long a text as the place says that lay over the buffer is longer by
-- these bytes.
pub record Puts (bytes : List ℕ) (at end : ℕ) (before after : List ℕ) : Type 0 where
  pub ends : end ≡ at + length bytes
  pub size : length after ≡ length before
  pub lies : (text space : List ℕ) → length text ≡ at → before ≡ over text space → after ≡ over (text ++ bytes) space

-- So far into a text a line may begin; what is printed of a file ends long before.
abbrev pub farthest : ℕ
farthest = 4294967296
