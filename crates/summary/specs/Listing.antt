-- A small sheet, and what is printed of it, line by line; and the lines of two files. proofs/Listing.antt computes that just this is printed.
use Rattle.std.specs.Prelude.{ℕ, List, [], ◌∷◌}
use Rattle.text.specs.Bytes.{written}

-- The words of a sheet that ends behind the second handler's begun transactions.
abbrev pub small_sheet : List ℕ
small_sheet = 12 ∷ 7 ∷ 3 ∷ 0 ∷ 1 ∷ 2 ∷ 105 ∷ []

-- What is printed of it.
unfoldable pub small_text : List ℕ
small_text = written (
    "handler 0 begun 12 committed 7 abort1 3 abort2 0 abort3 1 abort5 2"
    ∷ "handler 1 begun 105 committed 0 abort1 0 abort2 0 abort3 0 abort5 0"
    ∷ "handler 2 begun 0 committed 0 abort1 0 abort2 0 abort3 0 abort5 0"
    ∷ "handler 3 begun 0 committed 0 abort1 0 abort2 0 abort3 0 abort5 0"
    ∷ "handler 4 begun 0 committed 0 abort1 0 abort2 0 abort3 0 abort5 0"
    ∷ "handler 5 begun 0 committed 0 abort1 0 abort2 0 abort3 0 abort5 0"
    ∷ "handler 6 begun 0 committed 0 abort1 0 abort2 0 abort3 0 abort5 0"
    ∷ "handler 7 begun 0 committed 0 abort1 0 abort2 0 abort3 0 abort5 0"
    ∷ "handler 8 begun 0 committed 0 abort1 0 abort2 0 abort3 0 abort5 0"
    ∷ "handler 9 begun 0 committed 0 abort1 0 abort2 0 abort3 0 abort5 0"
    ∷ "handler 10 begun 0 committed 0 abort1 0 abort2 0 abort3 0 abort5 0"
    ∷ "handler 11 begun 0 committed 0 abort1 0 abort2 0 abort3 0 abort5 0"
    ∷ "handler 12 begun 0 committed 0 abort1 0 abort2 0 abort3 0 abort5 0"
    ∷ "handler 13 begun 0 committed 0 abort1 0 abort2 0 abort3 0 abort5 0"
    ∷ "handler 14 begun 0 committed 0 abort1 0 abort2 0 abort3 0 abort5 0"
    ∷ "handler 15 begun 0 committed 0 abort1 0 abort2 0 abort3 0 abort5 0"
    ∷ [])
