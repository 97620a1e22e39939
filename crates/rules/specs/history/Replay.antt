-- Transactions done one by one on a plain table, in commit order: all commits, or those of a set, such as a causal past. A cell of the table
-- is unset or holds a value.
use Rattle.std.specs.Prelude.{ℕ, ◌≡◌, Bool, List, [], ◌∷◌, length, ltb, if◌then◌else◌}
use Rattle.rules.specs.steps.Tables.{put}
use Rattle.rules.specs.steps.Replies.{Content, unset, value}
use Rattle.rules.specs.history.History.{Deed, look, again, set, Commit, Abort, History, place_after, writer_among, every_commit}
use Rattle.rules.specs.history.Past.{Stands, in_past}

module _ {W : Type 0} where
  -- The table after these deeds.
  unfoldable pub after : List (Deed W) → (ℕ → Content W) → ℕ → Content W
  after [] table = table
  after (look y source v ∷ deeds) table = after deeds table
  after (again y v ∷ deeds) table = after deeds table
  after (set y v ∷ deeds) table = put (after deeds table) y (value v)

  -- The first commits, so many.
  unfoldable pub first_of : ℕ → List (Commit W) → List (Commit W)
  first_of count [] = []
  first_of count (c ∷ commits) = if ltb (length commits) count then (c ∷ commits) else (first_of count commits)

  -- What a set of commits leaves on a table where every cell was unset: the opening's version.
  unfoldable pub replay : List (Commit W) → (ℕ → Bool) → ℕ → Content W
  replay [] included = λ _. unset
  replay (c ∷ commits) included =
      if included (place_after commits) then after c.deeds (replay commits included) else (replay commits included)

-- Every read among these deeds, done in its turn on a table, finds what was shown.
pub record Finds {W : Type 0} (deeds : List (Deed W)) (table : ℕ → Content W) : Type 0 where
  -- first reads,
  pub looks : (y source : ℕ) (v : Content W) (sooner : List (Deed W)) → Stands deeds (look y source v) sooner → after sooner table y ≡ v
  -- and repeated reads and those of own writes
  pub repeats : (y : ℕ) (v : Content W) (sooner : List (Deed W)) → Stands deeds (again y v) sooner → after sooner table y ≡ v

-- What a transaction of handler i with these deeds, after these commits, has read from the cells is just what its causal past
-- alone leaves there: the value, and the version.
pub record FromPast {W : Type 0} (commits : List (Commit W)) (i : ℕ) (deeds : List (Deed W)) : Type 0 where
  pub values : (y source : ℕ) (v : Content W) (sooner : List (Deed W)) → Stands deeds (look y source v) sooner
      → replay commits (in_past commits i deeds) y ≡ v
  pub versions : (y source : ℕ) (v : Content W) (sooner : List (Deed W)) → Stands deeds (look y source v) sooner
      → writer_among commits (in_past commits i deeds) y ≡ source

-- A history is legal, and leads to a table:
pub record Legal {W : Type 0} (h : History W) (table : ℕ → Content W) : Type 0 where
  -- (a) the commits, done one by one, find what was shown in all their reads,
  pub finds : (c : Commit W) (earlier : List (Commit W)) → Stands h.commits c earlier
      → Finds c.deeds (replay earlier every_commit)
  -- and end with the table;
  pub ends : (x : ℕ) → table x ≡ replay h.commits every_commit x
  -- (b) each other transaction has read what its causal past alone leaves: aborted ones, after the commits that stood then,
  pub aborted : (a : Abort W) (earlier : List (Abort W)) → Stands h.aborts a earlier
      → FromPast (first_of a.stood h.commits) a.handler a.deeds
  -- and open ones
  pub opened : (i : ℕ) → FromPast h.commits i (h.now i)
