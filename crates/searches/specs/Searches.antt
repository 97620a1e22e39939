-- For internal contracts alone: what our own functions are called with and leave. Nothing here need be believed.
-- What is looked for among the cells of a set, in the words of a body: the tests of the rules, said of words.
use Rattle.std.specs.Prelude.{ℕ, true, false, ◌≡◌, ◌<◌, Option, None, Some, ◌+◌, ◌*◌, ◌≤◌, Bool, not, ◌&&◌, List, eqb, ltb, length, get_or}
use Rattle.layout.specs.Bits.{has_bit}
use Rattle.layout.specs.Places.{cell_long, own_at}
use Rattle.layout.specs.WellFormed.{NoBitFrom}

-- A body whose m cells are there, and a set of some of them.
pub record Among (m set : ℕ) (body : List ℕ) : Type 0 where
  pub few : m ≤ 32
  pub below : NoBitFrom m set
  pub cells : m * cell_long m ≤ length body

-- Cell y is in the set, and its number in the row held is below that in the row of numbers.
abbrev pub lower : ℕ → List ℕ → ℕ → ℕ → ℕ → Bool
lower set body held numbers y = has_bit set y && ltb (get_or body (held + y) 0) (get_or body (numbers + y) 0)

-- Cell y is in the set, and its number in the row held is not its own.
abbrev pub differs : ℕ → ℕ → List ℕ → ℕ → ℕ → Bool
differs m set body held y = has_bit set y && not (eqb (get_or body (held + y) 0) (get_or body (own_at m y) 0))

-- Cell y is in the set, and its own number is 65,535.
abbrev pub filled : ℕ → ℕ → List ℕ → ℕ → Bool
filled m set body y = has_bit set y && eqb (get_or body (own_at m y) 0) 65535

-- Of the cells of a set, asked one after another from the lowest on, the first that passed: each below it failed, and where none was
-- found, each of the set did.
pub record FirstOf (set : ℕ) (Passed : ℕ → Bool → Type 0) (found : Option ℕ) : Type 0 where
  pub none : found ≡ None → (z : ℕ) → has_bit set z ≡ true → Passed z false
  pub one : (y : ℕ) → found ≡ Some y
      → (has_bit set y ≡ true) × Passed y true × ((z : ℕ) → z < y → has_bit set z ≡ true → Passed z false)
