-- The history that the judge's words say, so that the rules' own definitions answer each step. Aborted transactions are not noted:
-- they are in nobody's past.
use Rattle.std.specs.Prelude.{ℕ, zero, suc, Bool, true, false, not, List, [], ◌∷◌, eqb}
use Rattle.rules.specs.steps.Figure.{version_shows}
use Rattle.rules.specs.history.History.{Deed, look, set, Commit, History}
use Rattle.layout.specs.Rows.{below}
use Rattle.layout.specs.Places.{cells_of, handlers_of}
use Rattle.ledger.specs.Entries.{commits_noted, handler_row, commit_row, Entry, entry_in}

-- A read of the cell c from the cells, where its source is noted, on top of other deeds. From the opening it showed nothing, whatever is
-- noted as its copy.
unfoldable pub look_of : ℕ → ℕ → ℕ → List (Deed ℕ) → List (Deed ℕ)
look_of zero c v deeds = deeds
look_of (suc source) c v deeds = look c source (version_shows source v) ∷ deeds

-- A write of the cell c, where it is noted, on top of other deeds.
unfoldable pub set_of : Bool → ℕ → ℕ → List (Deed ℕ) → List (Deed ℕ)
set_of true c v deeds = set c v ∷ deeds
set_of false c v deeds = deeds

-- The deeds that an entry says of the first m cells.
unfoldable pub deeds_of : Entry → ℕ → List (Deed ℕ)
deeds_of e zero = []
deeds_of e (suc c) = set_of (e.written c) c (e.copies c) (look_of (e.sources c) c (e.copies c) (deeds_of e c))

-- The commit that an entry says.
abbrev pub commit_of : ℕ → Entry → Commit ℕ
commit_of m e = record { handler = e.head; deeds = deeds_of e m }

-- The first so many commits, latest first.
unfoldable pub commits_in : ℕ → List ℕ → ℕ → List (Commit ℕ)
commits_in m words zero = []
commits_in m words (suc k) = commit_of m (entry_in words (commit_row (suc k))) ∷ commits_in m words k

-- A handler's transaction is open.
abbrev pub is_open : Entry → Bool
is_open e = not (eqb e.head 0)

-- The history that the words say.
unfoldable pub history_in : List ℕ → History ℕ
history_in words =
    let m = cells_of words in
    let n = handlers_of words in
    record {
      commits = commits_in m words (commits_noted words);
      aborts = [];
      opened = below n false (λ i. is_open (entry_in words (handler_row i)));
      now = below n [] (λ i. deeds_of (entry_in words (handler_row i)) m);
    }
