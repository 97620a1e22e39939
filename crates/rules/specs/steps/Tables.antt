-- Tables, and tests over the places of a table. A table is a function from places: it has no length, and what is looked for
-- among cells is looked for below a given number of places.
use Rattle.std.specs.Prelude.{ℕ, zero, suc, ◌<◌, Bool, true, false, cond, eqb}
use Rattle.std.proofs.Math.Option.{Option, none, some}

-- The table with the value v at place k.
unfoldable pub put {ℓ} : {A : Type ℓ} → (ℕ → A) → ℕ → A → ℕ → A
put table k v j = cond (eqb j k) v (table j)

-- A place already found, or else this place if it passes.
unfoldable pub or_else : Option ℕ → Bool → ℕ → Option ℕ
or_else (some y) passes place = some y
or_else none true place = some place
or_else none false place = none

-- The lowest place below m that passes the test, if there is one.
unfoldable pub lowest : ℕ → (ℕ → Bool) → Option ℕ
lowest zero test = none
lowest (suc m) test = or_else (lowest m test) (test m) m

-- Something was found.
abbrev pub is_found {ℓ} : {A : Type ℓ} → Option A → Bool
is_found none = false
is_found (some a) = true

-- The place that was found; 0 where none was.
abbrev pub place_of : Option ℕ → ℕ
place_of none = 0
place_of (some y) = y

-- Some place below m passes the test.
unfoldable pub some_below : ℕ → (ℕ → Bool) → Bool
some_below m test = is_found (lowest m test)

-- The lowest place that meets a condition.
pub record LowestOf (Meets : ℕ → Type 0) (y : ℕ) : Type 0 where
  pub meets : Meets y
  pub least : (z : ℕ) → z < y → Meets z → ⊥
