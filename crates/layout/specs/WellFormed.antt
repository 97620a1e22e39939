-- Which words are a register, as a proposition in docs/RULES.md's words and as a test; proofs/Tested.antt shows that the test
-- answers exactly the proposition. Nothing else is required: a well-formed register need not be reachable.
use Rattle.std.specs.Prelude.{ℕ, ◌^◌, ◌≤◌, ◌<◌, ◌≡◌, Bool, false, not, ◌&&◌, List, length, leb, ltb}
use Rattle.rules.specs.steps.Tables.{some_below}
use Rattle.rules.specs.steps.Checks.{in_range}
use Rattle.rules.specs.steps.Given.{InRange}
use Rattle.layout.specs.Bits.{has_bit}
use Rattle.layout.specs.Places.{cells_of, handlers_of, body_long, body_of, cell_part, handler_part, number_in, phase_in, read_set_in}
use Rattle.layout.specs.Places.{written_set_in, handler_number_in, transaction_number_in}

-- No bit of the word is set at m or above.
abbrev pub NoBitFrom : ℕ → ℕ → Type 0
NoBitFrom m word = (c : ℕ) → m ≤ c → has_bit word c ≡ false

-- A handler's block that a well-formed register can hold.
pub record GoodBlock (m : ℕ) (block : List ℕ) : Type 0 where
  pub read_set : NoBitFrom m (read_set_in block)
  pub written_set : NoBitFrom m (written_set_in block)
  pub numbers : (y : ℕ) → y < m → handler_number_in block y ≤ 65535
  pub transaction : (y : ℕ) → y < m → transaction_number_in m block y ≤ 65535

-- A body of m cells and n handlers that a well-formed register can hold: the buffer long enough, no set bit at m or above, every
-- number of a cell, a handler or a transaction at most 65,535.
pub record GoodBody (m n : ℕ) (body : List ℕ) : Type 0 where
  pub long : body_long m n ≤ length body
  pub numbers : (c : ℕ) → c < m → (y : ℕ) → y < m → number_in (cell_part m body c) y ≤ 65535
  pub blocks : (i : ℕ) → i < n → GoodBlock m (handler_part m body i)

-- No phase lies above the last one.
abbrev pub PhasesTo : ℕ → ℕ → ℕ → List ℕ → Type 0
PhasesTo last m n body = (i : ℕ) → i < n → phase_in (handler_part m body i) ≤ last

-- Well formed: m and n in range, a good body, and phases 0 or 1.
pub record WellFormed (words : List ℕ) : Type 0 where
  pub range : InRange (cells_of words) (handlers_of words)
  pub body : GoodBody (cells_of words) (handlers_of words) (body_of words)
  pub phases : PhasesTo 1 (cells_of words) (handlers_of words) (body_of words)

-- ── The test ──────────────────────────────────────────────────────────

-- Every place below m passes the test.
unfoldable pub every_below : ℕ → (ℕ → Bool) → Bool
every_below m test = not (some_below m (λ y. not (test y)))

-- The first m numbers of a table are at most 65,535.
unfoldable pub numbers_fit : ℕ → (ℕ → ℕ) → Bool
numbers_fit m numbers = every_below m (λ y. leb (numbers y) 65535)

-- The block is good.
unfoldable pub is_good_block : ℕ → List ℕ → Bool
is_good_block m block =
    ltb (read_set_in block) (2 ^ m) && (ltb (written_set_in block) (2 ^ m)
    && (numbers_fit m (handler_number_in block) && numbers_fit m (transaction_number_in m block)))

-- The body of m cells and n handlers is good, and no phase lies above the last one.
unfoldable pub is_good_body : ℕ → ℕ → ℕ → List ℕ → Bool
is_good_body last m n body =
    let cells_good = every_below m (λ c. numbers_fit m (number_in (cell_part m body c))) in
    let blocks_good = every_below n (λ i. is_good_block m (handler_part m body i) && leb (phase_in (handler_part m body i)) last) in
    leb (body_long m n) (length body) && (cells_good && blocks_good)

-- The words are well formed. Cells and handlers are looked at only where m and n are in range.
unfoldable pub is_well_formed : List ℕ → Bool
is_well_formed words =
    in_range (cells_of words) (handlers_of words) && is_good_body 1 (cells_of words) (handlers_of words) (body_of words)
