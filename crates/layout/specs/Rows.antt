-- Rows of words: a table as a row, rows one after another, a part of a row, words that are the same but for one part, and a table read
-- off a row.
use Rattle.std.specs.Prelude.{ℕ, zero, suc, ◌+◌, ◌≤◌, ◌<◌, ◌≡◌, List, [], ◌∷◌, ◌++◌, length, get_or, take, drop, ltb, cond}

-- The first m entries of a table, in order.
unfoldable pub row : ℕ → (ℕ → ℕ) → List ℕ
row zero table = []
row (suc m) table = table 0 ∷ row m (λ c. table (suc c))

-- k rows, one after another.
unfoldable pub rows : ℕ → (ℕ → List ℕ) → List ℕ
rows zero each = []
rows (suc k) each = rows k each ++ each k

-- So many words from a place on.
abbrev pub part : ℕ → ℕ → List ℕ → List ℕ
part from long words = take long (drop from words)

-- The words with others put in for so many from a place on.
abbrev pub splice : ℕ → ℕ → List ℕ → List ℕ → List ℕ
splice from long new words = take from words ++ (new ++ drop (from + long) words)

-- So many words from a place on may be others; the number of words and every other word are as before.
pub record Untouched (from long : ℕ) (words after : List ℕ) : Type 0 where
  pub fits : from + long ≤ length words
  pub size : length after ≡ length words
  pub below : (place : ℕ) → place < from → get_or after place 0 ≡ get_or words place 0
  pub above : (place : ℕ) → from + long ≤ place → get_or after place 0 ≡ get_or words place 0

-- The table below m, and the same entry everywhere beyond.
unfoldable pub below {ℓ} : {A : Type ℓ} → ℕ → A → (ℕ → A) → ℕ → A
below m rest table y = cond (ltb y m) (table y) rest
