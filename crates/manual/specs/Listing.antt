-- Rows of the page of codes, written out: the codes at the borders of the plain sheet's ranges. proofs/Listing.antt computes that the page has
-- just these for them.
use Rattle.std.specs.Prelude.{ℕ, List, [], ◌∷◌}
use Prim.Native.String.{String}

-- A code, and its row.
pub record Row : Type 0 where
  pub code : ℕ
  pub line : String

-- The rows at the borders.
unfoldable pub borders : List Row
borders =
    record { code = 0; line = "|    0 | begin   |    0 |" }
    ∷ record { code = 1; line = "|    1 | try     |    0 |" }
    ∷ record { code = 2; line = "|    2 | give up |    0 |" }
    ∷ record { code = 3; line = "|    3 | unknown |    0 |" }
    ∷ record { code = 31; line = "|   31 | unknown |    0 |" }
    ∷ record { code = 32; line = "|   32 | read    |    0 |" }
    ∷ record { code = 63; line = "|   63 | read    |   31 |" }
    ∷ record { code = 64; line = "|   64 | write   |    0 |" }
    ∷ record { code = 95; line = "|   95 | write   |   31 |" }
    ∷ record { code = 96; line = "|   96 | unknown |    0 |" }
    ∷ record { code = 255; line = "|  255 | unknown |    0 |" }
    ∷ []
