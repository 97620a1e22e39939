-- Files in bytes, and what is printed of them, line by line: the published listing, a transaction that gives up, a cell written as 0
-- beside one never written, a file refused with 30, one refused with 15, and order places refused with 11 and with 32.
-- proofs/Listings.antt computes that the runner and the judge print just this.
use Rattle.std.specs.Prelude.{ℕ, List, [], ◌∷◌}
use Rattle.text.specs.Bytes.{written}

-- A file, and what is printed of it.
pub record Listing : Type 0 where
  pub file : List ℕ
  pub text : List ℕ

-- The published listing, docs/RULES.md, K7: handler 0 is aborted with 1, by cell 0.
unfoldable pub published : Listing
published = record {
  file =
      2 ∷ 2 ∷ 0 ∷ 14 ∷ 0 ∷ 3 ∷ 0 ∷ 17 ∷ 0 ∷ 12 ∷ 0 ∷ 29 ∷ 0 ∷ 7 ∷
      0 ∷ 32 ∷ 33 ∷
      0 ∷ 64 ∷ 0 ∷ 0 ∷ 0 ∷ 5 ∷ 65 ∷ 0 ∷ 0 ∷ 0 ∷ 7 ∷ 1 ∷
      0 ∷ 0 ∷ 1 ∷ 1 ∷ 1 ∷ 1 ∷ 0 ∷ [];
  text = written (
      "handlers 2 cells 2" ∷ "0 0 0 ok" ∷ "1 0 32 unset" ∷ "2 1 0 ok" ∷ "3 1 64 ok" ∷ "4 1 65 ok" ∷ "5 1 1 commit" ∷
      "6 0 33 abort 1 cell 0" ∷ "cell 0 value 5 number 1" ∷ "cell 1 value 7 number 1" ∷ []);
}

-- A handler that writes 0 := 7 and gives up, and then gives up once more, idle.
unfoldable pub given_up : Listing
given_up = record {
  file = 1 ∷ 1 ∷ 0 ∷ 10 ∷ 0 ∷ 8 ∷ 0 ∷ 18 ∷ 0 ∷ 4 ∷ 0 ∷ 64 ∷ 0 ∷ 0 ∷ 0 ∷ 7 ∷ 2 ∷ 2 ∷ 0 ∷ 0 ∷ 0 ∷ 0 ∷ [];
  text = written (
      "handlers 1 cells 1" ∷ "0 0 0 ok" ∷ "1 0 64 ok" ∷ "2 0 2 abort 5" ∷ "3 0 2 refused 14" ∷ "cell 0 unset number 0" ∷ []);
}

-- A handler that reads cell 1 twice, writes 0 := 0, reads its write and commits; then begins anew, reads cell 0 and gives up. Cell 0 holds the
-- value 0, and cell 1 is unset.
unfoldable pub calm : Listing
calm = record {
  file =
      1 ∷ 2 ∷ 0 ∷ 10 ∷ 0 ∷ 13 ∷ 0 ∷ 23 ∷ 0 ∷ 9 ∷
      0 ∷ 33 ∷ 33 ∷ 64 ∷ 0 ∷ 0 ∷ 0 ∷ 0 ∷ 32 ∷ 1 ∷ 0 ∷ 32 ∷ 2 ∷
      0 ∷ 0 ∷ 0 ∷ 0 ∷ 0 ∷ 0 ∷ 0 ∷ 0 ∷ 0 ∷ [];
  text = written (
      "handlers 1 cells 2" ∷ "0 0 0 ok" ∷ "1 0 33 unset" ∷ "2 0 33 unset" ∷ "3 0 64 ok" ∷ "4 0 32 value 0" ∷ "5 0 1 commit" ∷
      "6 0 0 ok" ∷ "7 0 32 value 0" ∷ "8 0 2 abort 5" ∷ "cell 0 value 0 number 1" ∷ "cell 1 unset number 0" ∷ []);
}

-- A file with no byte.
unfoldable pub empty : Listing
empty = record { file = []; text = written ("refused 30" ∷ []) }

-- A script with the unknown code 3, which is not ordered.
unfoldable pub unknown : Listing
unknown = record { file = 1 ∷ 1 ∷ 0 ∷ 10 ∷ 0 ∷ 1 ∷ 0 ∷ 11 ∷ 0 ∷ 0 ∷ 3 ∷ []; text = written ("refused 15" ∷ []) }

-- An order that names handler 1 of one handler, and handler 0 once too often.
unfoldable pub unordered : Listing
unordered = record {
  file = 1 ∷ 1 ∷ 0 ∷ 10 ∷ 0 ∷ 1 ∷ 0 ∷ 11 ∷ 0 ∷ 3 ∷ 0 ∷ 0 ∷ 1 ∷ 0 ∷ [];
  text = written ("handlers 1 cells 1" ∷ "0 0 0 ok" ∷ "1 1 - refused 11" ∷ "2 0 - refused 32" ∷ "cell 0 unset number 0" ∷ []);
}

-- All of them.
unfoldable pub listings : List Listing
listings = published ∷ given_up ∷ calm ∷ empty ∷ unknown ∷ unordered ∷ []
