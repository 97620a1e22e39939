-- The cases K1 to K12 and K14 of docs/RULES.md as data, and some besides: one list of rows. A row has its opening, its steps with the
-- replies that are expected, and the words that are expected at the end. The crate `cases` claims them of the promises, proofs/AllCases.antt of
-- the rules.
use Rattle.std.specs.Prelude.{ℕ, List, [], ◌∷◌, ◌++◌, replicate}
use Rattle.rules.specs.steps.Replies.{Numbers}

-- A step of a case: handler, code and value, and the reply that is expected.
pub record CaseStep : Type 0 where
  pub handler : ℕ
  pub code : ℕ
  pub value : ℕ
  pub reply : Numbers

-- How a case begins: a buffer of so many words, each 7, is opened for m cells and n handlers, with the reply that is expected; or
-- words are given.
pub data CaseStart : Type 0 where
  opened : (m n long : ℕ) → Numbers → CaseStart
  given : List ℕ → CaseStart

-- What a case ends with: a register's cells, each its value and its numbers, its handlers' blocks, and the words beyond; or words
-- that are no register.
pub data CaseEnd : Type 0 where
  register : (cells handlers : List (List ℕ)) → List ℕ → CaseEnd
  loose : List ℕ → CaseEnd

-- A case.
pub record Case : Type 0 where
  pub start : CaseStart
  pub lines : List CaseStep
  pub end : CaseEnd

-- ── How rows are written ──────────────────────────────────────────────

-- The reply ok.
abbrev ok : Numbers
ok = record { kind = 0; detail = 0; cell = 0 }

-- Unset.
abbrev unset : Numbers
unset = record { kind = 5; detail = 0; cell = 0 }

-- A value.
abbrev value : ℕ → Numbers
value v = record { kind = 1; detail = v; cell = 0 }

-- A commit.
abbrev commit : Numbers
commit = record { kind = 2; detail = 0; cell = 0 }

-- An abort with its reason, and the cell that it names; 0 where it names none.
abbrev abort : ℕ → ℕ → Numbers
abort reason cell = record { kind = 3; detail = reason; cell = cell }

-- A refusal with its number.
abbrev refused : ℕ → Numbers
refused number = record { kind = 4; detail = number; cell = 0 }

-- A step that takes no value.
abbrev line : ℕ → ℕ → Numbers → CaseStep
line handler code reply = record { handler = handler; code = code; value = 0; reply = reply }

-- A write, which is answered ok.
abbrev write : ℕ → ℕ → ℕ → CaseStep
write handler code v = record { handler = handler; code = code; value = v; reply = ok }

-- A cell of two: its value and its numbers.
abbrev cell : ℕ → ℕ → ℕ → List ℕ
cell v a b = v ∷ a ∷ b ∷ []

-- An idle handler of two cells: its numbers, and all else 0.
abbrev rests : ℕ → ℕ → List ℕ
rests a b = 0 ∷ 0 ∷ 0 ∷ a ∷ b ∷ 0 ∷ 0 ∷ 0 ∷ 0 ∷ []

-- So many words of the buffer as they were.
abbrev untouched : ℕ → List ℕ
untouched k = replicate k 7

-- ── The rows ──────────────────────────────────────────────────────────

-- The cases, in their order. Behind K14 stand K5, K6 and K12 with a read more than docs/RULES.md has, so that what is written is seen.
-- Before K1 and at the end stand inputs that no register was opened for: each gets its number.
unfoldable pub cases : List Case
cases =
    -- a buffer of no word and of one
    record { start = opened 2 1 0 (refused 21); lines = line 0 0 (refused 10) ∷ []; end = loose [] } ∷
    record { start = given (2 ∷ []); lines = line 0 0 (refused 10) ∷ []; end = loose (2 ∷ []) } ∷
    -- K1 n = 1: 17 words open, 16 give 21
    record { start = opened 2 1 17 ok; lines = []; end = register (cell 0 0 0 ∷ cell 0 0 0 ∷ []) (rests 0 0 ∷ []) [] } ∷
    record { start = opened 2 1 16 (refused 21); lines = []; end = loose (untouched 16) } ∷
    -- K2 idle read of cell 31: 12. Code 3 with handler 16: 15
    record {
      start = opened 2 1 19 ok;
      lines = line 0 63 (refused 12) ∷ line 16 3 (refused 15) ∷ [];
      end = register (cell 0 0 0 ∷ cell 0 0 0 ∷ []) (rests 0 0 ∷ []) (untouched 2);
    } ∷
    -- K3 begin, begin: ok, 13
    record {
      start = opened 2 1 17 ok;
      lines = line 0 0 ok ∷ line 0 0 (refused 13) ∷ [];
      end = register (cell 0 0 0 ∷ cell 0 0 0 ∷ []) ((1 ∷ 0 ∷ 0 ∷ 0 ∷ 0 ∷ 0 ∷ 0 ∷ 0 ∷ 0 ∷ []) ∷ []) [];
    } ∷
    -- K4 begin, try: commit, cells and numbers unchanged
    record {
      start = opened 2 1 18 ok;
      lines = line 0 0 ok ∷ line 0 1 commit ∷ [];
      end = register (cell 0 0 0 ∷ cell 0 0 0 ∷ []) (rests 0 0 ∷ []) (untouched 1);
    } ∷
    -- K5 H0 writes 0 := 5, reads 0 (5); H1 commits 0 := 9; H0 tries: commit, cell 0 is 5, number 2
    record {
      start = opened 2 2 27 ok;
      lines =
          line 0 0 ok ∷ write 0 64 5 ∷ line 0 32 (value 5) ∷
          line 1 0 ok ∷ write 1 64 9 ∷ line 1 1 commit ∷
          line 0 1 commit ∷ [];
      end = register (cell 5 2 0 ∷ cell 0 0 0 ∷ []) (rests 2 0 ∷ rests 1 0 ∷ []) (untouched 1);
    } ∷
    -- K6 H0 reads 0; H1 commits 0 := 5; H0 tries: abort 2, cell 0
    record {
      start = opened 2 2 26 ok;
      lines =
          line 0 0 ok ∷ line 0 32 unset ∷
          line 1 0 ok ∷ write 1 64 5 ∷ line 1 1 commit ∷
          line 0 1 (abort 2 0) ∷ [];
      end = register (cell 5 1 0 ∷ cell 0 0 0 ∷ []) (rests 0 0 ∷ rests 1 0 ∷ []) [];
    } ∷
    -- the same if H0 also writes 0
    record {
      start = opened 2 2 26 ok;
      lines =
          line 0 0 ok ∷ line 0 32 unset ∷ write 0 64 3 ∷
          line 1 0 ok ∷ write 1 64 5 ∷ line 1 1 commit ∷
          line 0 1 (abort 2 0) ∷ [];
      end = register (cell 5 1 0 ∷ cell 0 0 0 ∷ []) (rests 0 0 ∷ rests 1 0 ∷ []) [];
    } ∷
    -- K7 the listing
    record {
      start = opened 2 2 26 ok;
      lines =
          line 0 0 ok ∷ line 0 32 unset ∷
          line 1 0 ok ∷ write 1 64 5 ∷ write 1 65 7 ∷ line 1 1 commit ∷
          line 0 33 (abort 1 0) ∷ [];
      end = register (cell 5 1 1 ∷ cell 7 1 1 ∷ []) (rests 0 0 ∷ rests 1 1 ∷ []) [];
    } ∷
    -- K8 H0 reads 0; H1 commits 0 := 5; H2 reads 0, writes 1 := 6, commits; H0 reads 1: abort 1, cell 0. Cell 1's numbers are (1,1)
    record {
      start = opened 2 3 35 ok;
      lines =
          line 0 0 ok ∷ line 0 32 unset ∷
          line 1 0 ok ∷ write 1 64 5 ∷ line 1 1 commit ∷
          line 2 0 ok ∷ line 2 32 (value 5) ∷ write 2 65 6 ∷ line 2 1 commit ∷
          line 0 33 (abort 1 0) ∷ [];
      end = register (cell 5 1 0 ∷ cell 6 1 1 ∷ []) (rests 0 0 ∷ rests 1 0 ∷ rests 1 1 ∷ []) [];
    } ∷
    -- K9 H0 reads 0; H1 commits 0 := 5, then in a second transaction 1 := 6; H0 reads 1: abort 1, cell 0
    record {
      start = opened 2 2 26 ok;
      lines =
          line 0 0 ok ∷ line 0 32 unset ∷
          line 1 0 ok ∷ write 1 64 5 ∷ line 1 1 commit ∷
          line 1 0 ok ∷ write 1 65 6 ∷ line 1 1 commit ∷
          line 0 33 (abort 1 0) ∷ [];
      end = register (cell 5 1 0 ∷ cell 6 1 1 ∷ []) (rests 0 0 ∷ rests 1 1 ∷ []) [];
    } ∷
    -- K10 H0 reads 0; H1 commits 0 := 5; H2 commits 1 := 6, blind; H0 reads 1: value 6; H0 tries: abort 2, cell 0
    record {
      start = opened 2 3 35 ok;
      lines =
          line 0 0 ok ∷ line 0 32 unset ∷
          line 1 0 ok ∷ write 1 64 5 ∷ line 1 1 commit ∷
          line 2 0 ok ∷ write 2 65 6 ∷ line 2 1 commit ∷
          line 0 33 (value 6) ∷ line 0 1 (abort 2 0) ∷ [];
      end = register (cell 5 1 0 ∷ cell 6 0 1 ∷ []) (rests 0 0 ∷ rests 1 0 ∷ rests 0 1 ∷ []) [];
    } ∷
    -- K11 H1 commits 1 := 3; H0 reads 1; H2 commits 0 := 4 and 1 := 8; H0 reads 0: abort 1, cell 1
    record {
      start = opened 2 3 37 ok;
      lines =
          line 1 0 ok ∷ write 1 65 3 ∷ line 1 1 commit ∷
          line 0 0 ok ∷ line 0 33 (value 3) ∷
          line 2 0 ok ∷ write 2 64 4 ∷ write 2 65 8 ∷ line 2 1 commit ∷
          line 0 32 (abort 1 1) ∷ [];
      end = register (cell 4 1 2 ∷ cell 8 1 2 ∷ []) (rests 0 0 ∷ rests 0 1 ∷ rests 1 2 ∷ []) (untouched 2);
    } ∷
    -- K12 a written cell's number 65,534: commit, 65,535
    record {
      start = given (2 ∷ 1 ∷ (cell 8 65534 3 ++ (cell 0 0 0 ++ rests 0 2)));
      lines = line 0 0 ok ∷ write 0 64 5 ∷ line 0 1 commit ∷ [];
      end = register (cell 5 65535 2 ∷ cell 0 0 0 ∷ []) (rests 65535 2 ∷ []) [];
    } ∷
    -- at 65,535: abort 3, cell 0
    record {
      start = given (2 ∷ 1 ∷ (cell 0 65535 0 ++ (cell 0 0 0 ++ rests 0 0)));
      lines = line 0 0 ok ∷ write 0 64 5 ∷ line 0 1 (abort 3 0) ∷ [];
      end = register (cell 0 65535 0 ∷ cell 0 0 0 ∷ []) (rests 0 0 ∷ []) [];
    } ∷
    -- with a stale read besides: abort 2, cell 1
    record {
      start = given (2 ∷ 2 ∷ (cell 0 65535 0 ++ (cell 9 0 1 ++ (rests 4 0 ++ rests 0 0))));
      lines =
          line 0 0 ok ∷ line 0 33 (value 9) ∷ write 0 64 5 ∷
          line 1 0 ok ∷ write 1 65 6 ∷ line 1 1 commit ∷
          line 0 1 (abort 2 1) ∷ [];
      end = register (cell 0 65535 0 ∷ cell 6 0 2 ∷ []) (rests 4 0 ∷ rests 0 2 ∷ []) [];
    } ∷
    -- K14 H0 commits 1 := 3, H1 0 := 5; H0 reads 0, writes 1 := 7, gives up: abort 5, cells and its numbers as they were. Idle: 14
    record {
      start = opened 2 2 27 ok;
      lines =
          line 0 0 ok ∷ write 0 65 3 ∷ line 0 1 commit ∷
          line 1 0 ok ∷ write 1 64 5 ∷ line 1 1 commit ∷
          line 0 0 ok ∷ line 0 32 (value 5) ∷ write 0 65 7 ∷ line 0 2 (abort 5 0) ∷
          line 0 2 (refused 14) ∷ line 2 2 (refused 11) ∷ [];
      end = register (cell 5 1 0 ∷ cell 3 0 1 ∷ []) (rests 0 1 ∷ rests 1 0 ∷ []) (untouched 1);
    } ∷
    -- the same, and H0 begins anew
    record {
      start = given (2 ∷ 1 ∷ (cell 5 1 0 ++ (cell 3 0 1 ++ rests 0 1)));
      lines = line 0 0 ok ∷ line 0 32 (value 5) ∷ write 0 65 7 ∷ line 0 2 (abort 5 0) ∷ line 0 0 ok ∷ [];
      end = register (cell 5 1 0 ∷ cell 3 0 1 ∷ []) ((1 ∷ 0 ∷ 0 ∷ 0 ∷ 1 ∷ 0 ∷ 1 ∷ 0 ∷ 0 ∷ []) ∷ []) [];
    } ∷
    -- besides K5: H1 reads what it wrote before it commits
    record {
      start = opened 2 2 27 ok;
      lines =
          line 0 0 ok ∷ write 0 64 5 ∷ line 0 32 (value 5) ∷
          line 1 0 ok ∷ write 1 64 9 ∷ line 1 32 (value 9) ∷ line 1 1 commit ∷
          line 0 1 commit ∷ [];
      end = register (cell 5 2 0 ∷ cell 0 0 0 ∷ []) (rests 2 0 ∷ rests 1 0 ∷ []) (untouched 1);
    } ∷
    -- besides K6: H0 reads what it wrote before H1 commits
    record {
      start = opened 2 2 26 ok;
      lines =
          line 0 0 ok ∷ line 0 32 unset ∷ write 0 64 3 ∷ line 0 32 (value 3) ∷
          line 1 0 ok ∷ write 1 64 5 ∷ line 1 1 commit ∷
          line 0 1 (abort 2 0) ∷ [];
      end = register (cell 5 1 0 ∷ cell 0 0 0 ∷ []) (rests 0 0 ∷ rests 1 0 ∷ []) [];
    } ∷
    -- besides K12: the cell at 65,534 is read before it is written
    record {
      start = given (2 ∷ 1 ∷ (cell 8 65534 3 ++ (cell 0 0 0 ++ rests 0 2)));
      lines = line 0 0 ok ∷ line 0 32 (value 8) ∷ write 0 64 5 ∷ line 0 1 commit ∷ [];
      end = register (cell 5 65535 3 ∷ cell 0 0 0 ∷ []) (rests 65535 3 ∷ []) [];
    } ∷
    -- besides K12: what is written at 65,535 is read before the try
    record {
      start = given (2 ∷ 1 ∷ (cell 0 65535 0 ++ (cell 0 0 0 ++ rests 0 0)));
      lines = line 0 0 ok ∷ write 0 64 5 ∷ line 0 32 (value 5) ∷ line 0 1 (abort 3 0) ∷ [];
      end = register (cell 0 65535 0 ∷ cell 0 0 0 ∷ []) (rests 0 0 ∷ []) [];
    } ∷
    -- besides K12: the same with a stale read
    record {
      start = given (2 ∷ 2 ∷ (cell 0 65535 0 ++ (cell 9 0 1 ++ (rests 4 0 ++ rests 0 0))));
      lines =
          line 0 0 ok ∷ line 0 33 (value 9) ∷ write 0 64 5 ∷ line 0 32 (value 5) ∷
          line 1 0 ok ∷ write 1 65 6 ∷ line 1 1 commit ∷
          line 0 1 (abort 2 1) ∷ [];
      end = register (cell 0 65535 0 ∷ cell 6 0 2 ∷ []) (rests 4 0 ∷ rests 0 2 ∷ []) [];
    } ∷
    -- a cell that was written as 0 reads as 0, and one that was never written as unset, until the transaction itself writes it
    record {
      start = opened 2 1 17 ok;
      lines =
          line 0 0 ok ∷ write 0 64 0 ∷ line 0 1 commit ∷
          line 0 0 ok ∷ line 0 32 (value 0) ∷ line 0 32 (value 0) ∷ line 0 33 unset ∷ line 0 33 unset ∷
          write 0 65 0 ∷ line 0 33 (value 0) ∷ [];
      end = register (cell 0 1 0 ∷ cell 0 0 0 ∷ []) ((1 ∷ 3 ∷ 2 ∷ 1 ∷ 0 ∷ 1 ∷ 0 ∷ 0 ∷ 0 ∷ []) ∷ []) [];
    } ∷
    -- on a register that no run leads to, a read is unset by the number alone, whatever the cell or the copy holds, and both stay as they were
    record {
      start = given (2 ∷ 1 ∷ (cell 9 0 0 ++ (cell 8 0 0 ++ (1 ∷ 1 ∷ 0 ∷ 0 ∷ 0 ∷ 0 ∷ 0 ∷ 7 ∷ 6 ∷ []))));
      lines = line 0 32 unset ∷ line 0 33 unset ∷ line 0 33 unset ∷ [];
      end = register (cell 9 0 0 ∷ cell 8 0 0 ∷ []) ((1 ∷ 3 ∷ 0 ∷ 0 ∷ 0 ∷ 0 ∷ 0 ∷ 7 ∷ 8 ∷ []) ∷ []) [];
    } ∷
    -- where several cells meet the condition, the lowest is named, in whatever order they were read: H0 reads 1, then 0; H1 commits 0 and 1
    record {
      start = opened 2 2 26 ok;
      lines =
          line 0 0 ok ∷ line 0 33 unset ∷ line 0 32 unset ∷
          line 1 0 ok ∷ write 1 65 7 ∷ write 1 64 5 ∷ line 1 1 commit ∷
          line 0 1 (abort 2 0) ∷ [];
      end = register (cell 5 1 1 ∷ cell 7 1 1 ∷ []) (rests 0 0 ∷ rests 1 1 ∷ []) [];
    } ∷
    -- the same of two spent cells
    record {
      start = given (2 ∷ 1 ∷ (cell 0 65535 0 ++ (cell 0 0 65535 ++ rests 0 0)));
      lines = line 0 0 ok ∷ write 0 65 6 ∷ write 0 64 5 ∷ line 0 1 (abort 3 0) ∷ [];
      end = register (cell 0 65535 0 ∷ cell 0 0 65535 ∷ []) (rests 0 0 ∷ []) [];
    } ∷
    -- and of a read: H0 has read 2 and 1 of three cells, H1 commits all, and H0 reads 0: abort 1, cell 1
    record {
      start = opened 3 2 38 ok;
      lines =
          line 0 0 ok ∷ line 0 34 unset ∷ line 0 33 unset ∷
          line 1 0 ok ∷ write 1 64 5 ∷ write 1 65 7 ∷ write 1 66 9 ∷ line 1 1 commit ∷
          line 0 32 (abort 1 1) ∷ [];
      end = register ((5 ∷ 1 ∷ 1 ∷ 1 ∷ []) ∷ (7 ∷ 1 ∷ 1 ∷ 1 ∷ []) ∷ (9 ∷ 1 ∷ 1 ∷ 1 ∷ []) ∷ [])
          (replicate 12 0 ∷ (0 ∷ 0 ∷ 0 ∷ 1 ∷ 1 ∷ 1 ∷ replicate 6 0) ∷ []) [];
    } ∷
    -- words 0 and 1 huge
    record {
      start = given (4294967295 ∷ 4294967295 ∷ (cell 0 0 0 ++ (cell 0 0 0 ++ rests 0 0)));
      lines = line 0 0 (refused 10) ∷ [];
      end = loose (4294967295 ∷ 4294967295 ∷ (cell 0 0 0 ++ (cell 0 0 0 ++ rests 0 0)));
    } ∷
    -- handler and code at 4,294,967,295
    record {
      start = opened 2 1 17 ok;
      lines = line 4294967295 0 (refused 11) ∷ line 4294967295 4294967295 (refused 15) ∷ [];
      end = register (cell 0 0 0 ∷ cell 0 0 0 ∷ []) (rests 0 0 ∷ []) [];
    } ∷ []
