-- What happened, noted from the steps and the replies alone: no number of a cell, a handler or a transaction is looked at, nor a
-- read set or a copy. Every list here stands latest first.
use Rattle.std.specs.Prelude.{ℕ, suc, Bool, true, false, ◌&&◌, ◌||◌, List, [], ◌∷◌, length, eqb, if◌then◌else◌}
use Rattle.rules.specs.steps.Tables.{put}
use Rattle.rules.specs.steps.Codes.{Step, begin, try, give_up, read, write, Kind, known, unknown}
use Rattle.rules.specs.steps.Replies.{Content, Outcome, ok, shows, committed, aborted, Reply, reported}

-- What a transaction did in one step. A commit is named by its place in the order of commits, counted from 1; 0 names the
-- opening, which gave each cell its first version and is nobody's.
pub data Deed (W : Type 0) : Type 0 where
  -- it read from the cells: the cell, the source (which wrote the version read), and what was shown
  look : ℕ → ℕ → Content W → Deed W
  -- it read a cell that it had already read or written: the cell, and what was shown
  again : ℕ → Content W → Deed W
  -- it wrote: the cell, and the value
  set : ℕ → W → Deed W

-- A committed transaction: its handler, and what it did.
pub record Commit (W : Type 0) : Type 0 where
  pub handler : ℕ
  pub deeds : List (Deed W)

-- An aborted transaction, and how many commits stood when it ended. A read that aborted it is not among its deeds; all others are.
pub record Abort (W : Type 0) : Type 0 where
  pub handler : ℕ
  pub deeds : List (Deed W)
  pub stood : ℕ

-- A history: commits, aborted transactions, and of each handler whether its transaction is open and what it has done by now.
pub record History (W : Type 0) : Type 0 where
  pub commits : List (Commit W)
  pub aborts : List (Abort W)
  pub opened : ℕ → Bool
  pub now : ℕ → List (Deed W)

-- The set of all commits.
abbrev pub every_commit : ℕ → Bool
every_commit k = true

module _ {W : Type 0} where
  -- It read from the cells, of some cell and some source, what passes a test.
  unfoldable pub some_look : (ℕ → ℕ → Bool) → List (Deed W) → Bool
  some_look test [] = false
  some_look test (look y source v ∷ deeds) = test y source || some_look test deeds
  some_look test (again y v ∷ deeds) = some_look test deeds
  some_look test (set y v ∷ deeds) = some_look test deeds

  -- It read the cell x from the cells.
  unfoldable pub has_read : List (Deed W) → ℕ → Bool
  has_read deeds x = some_look (λ y source. eqb x y) deeds

  -- It wrote the cell x.
  unfoldable pub has_written : List (Deed W) → ℕ → Bool
  has_written [] x = false
  has_written (look y source v ∷ deeds) x = has_written deeds x
  has_written (again y v ∷ deeds) x = has_written deeds x
  has_written (set y v ∷ deeds) x = eqb x y || has_written deeds x

  -- ── Versions ────────────────────────────────────────────────────────

  -- The place of the commit that comes after these.
  abbrev pub place_after : List (Commit W) → ℕ
  place_after commits = suc (length commits)

  -- The commit of a set that wrote the latest version of the cell; 0, the opening, where none wrote it.
  unfoldable pub writer_among : List (Commit W) → (ℕ → Bool) → ℕ → ℕ
  writer_among [] included x = 0
  writer_among (c ∷ commits) included x =
      if included (place_after commits) && has_written c.deeds x then place_after commits else (writer_among commits included x)

  -- The writer of the cell's present version.
  unfoldable pub writer : List (Commit W) → ℕ → ℕ
  writer commits x = writer_among commits every_commit x

  -- ── Noting ──────────────────────────────────────────────────────────

  -- Before the first step.
  unfoldable pub no_history : History W
  no_history = record { commits = []; aborts = []; opened = λ _. false; now = λ _. [] }

  -- Handler i's transaction is open, and these are its deeds.
  unfoldable pub doing : History W → ℕ → List (Deed W) → History W
  doing h i deeds =
      record { commits = h.commits; aborts = h.aborts; opened = put h.opened i true; now = put h.now i deeds }

  -- A read of x that showed v: from the cells, where the source wrote x, unless x was already read or written.
  unfoldable pub read_deed : List (Deed W) → ℕ → ℕ → Content W → Deed W
  read_deed deeds source x v = if has_read deeds x || has_written deeds x then (again x v) else (look x source v)

  -- An answer ok, which only a begin and a write get.
  unfoldable pub note_ok : History W → ℕ → Step → W → History W
  note_ok h i begin v = doing h i []
  note_ok h i (write x) v = doing h i (set x v ∷ h.now i)
  note_ok h i (read x) v = h
  note_ok h i try v = h
  note_ok h i give_up v = h

  -- An answer that shows something, which only a read gets; the sources are the writers of what the cells hold.
  unfoldable pub note_shown : (ℕ → ℕ) → History W → ℕ → Step → Content W → History W
  note_shown source h i (read x) v = doing h i (read_deed (h.now i) (source x) x v ∷ h.now i)
  note_shown source h i (write x) v = h
  note_shown source h i begin v = h
  note_shown source h i try v = h
  note_shown source h i give_up v = h

  -- Handler i's open transaction, as the commit that it may become.
  abbrev pub transaction : History W → ℕ → Commit W
  transaction h i = record { handler = i; deeds = h.now i }

  -- Handler i's transaction ends, and these are the commits and the aborted transactions then.
  unfoldable pub ended : History W → ℕ → List (Commit W) → List (Abort W) → History W
  ended h i commits aborts =
      record { commits = commits; aborts = aborts; opened = put h.opened i false; now = put h.now i [] }

  -- Handler i's transaction commits.
  unfoldable pub note_commit : History W → ℕ → History W
  note_commit h i = ended h i (transaction h i ∷ h.commits) h.aborts

  -- Handler i's transaction is aborted.
  unfoldable pub note_abort : History W → ℕ → History W
  note_abort h i =
      ended h i h.commits (record { handler = i; deeds = h.now i; stood = length h.commits } ∷ h.aborts)

  -- The history after handler i's step, with a value where it is a write, came to an outcome.
  unfoldable pub note : History W → ℕ → Step → W → Outcome W → History W
  note h i step v ok = note_ok h i step v
  note h i step v (shows w) = note_shown (writer h.commits) h i step w
  note h i step v committed = note_commit h i
  note h i step v (aborted reason) = note_abort h i

  -- The history after what handler i asked for got a reply. A refused step is not noted; what stands for no step is refused.
  unfoldable pub note_reply : History W → ℕ → Kind → W → Reply W → History W
  note_reply h i (known step) v (reported report) = note h i step v report.outcome
  note_reply h i (known step) v (Reply.refused refusal) = h
  note_reply h i unknown v reply = h
