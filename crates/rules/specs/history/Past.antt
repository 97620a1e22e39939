-- The causal past, and a later version than one read: as relations, to be believed at sight, and as they are computed. The two
-- are proved equal in proofs/Computed.antt.
use Rattle.std.specs.Prelude.{ℕ, ◌<◌, ◌≡◌, Bool, true, false, ◌&&◌, ◌||◌, List, [], ◌∷◌, eqb, ltb, if◌then◌else◌}
use Rattle.std.proofs.Math.Option.{Option}
use Rattle.rules.specs.steps.Tables.{lowest}
use Rattle.rules.specs.steps.Replies.{Content}
use Rattle.rules.specs.history.History.{Deed, look, Commit, some_look, has_written, place_after}

-- ── As relations ──────────────────────────────────────────────────────

-- One stands in a list, latest first, after those that came earlier. So a commit's place is the one after its earlier commits.
pub data Stands {A : Type 0} : List A → A → List A → Type 0 where
  last : {a : A} {earlier : List A} → Stands (a ∷ earlier) a earlier
  older : {a b : A} {list earlier : List A} → Stands list a earlier → Stands (b ∷ list) a earlier

-- The causal past of a transaction of handler i with these deeds, after these commits, holds the commit j:
pub data InPast {W : Type 0} : List (Commit W) → ℕ → List (Deed W) → ℕ → Type 0 where
  -- the earlier commits of its handler,
  own : {commits earlier : List (Commit W)} {c : Commit W} {i : ℕ} {deeds : List (Deed W)}
      → Stands commits c earlier → c.handler ≡ i → InPast commits i deeds (place_after earlier)
  -- the commits whose versions it read from the cells,
  drew : {commits earlier : List (Commit W)} {c : Commit W} {i y : ℕ} {v : Content W} {deeds sooner : List (Deed W)}
      → Stands commits c earlier → Stands deeds (look y (place_after earlier) v) sooner
      → InPast commits i deeds (place_after earlier)
  -- and their pasts
  before : {commits earlier : List (Commit W)} {c : Commit W} {i j : ℕ} {deeds : List (Deed W)}
      → Stands commits c earlier → InPast commits i deeds (place_after earlier) → InPast earlier c.handler c.deeds j
      → InPast commits i deeds j

-- The commit k, or a commit in its causal past, is the commit j.
pub data UpTo {W : Type 0} : List (Commit W) → ℕ → ℕ → Type 0 where
  itself : {commits earlier : List (Commit W)} {c : Commit W}
      → Stands commits c earlier → UpTo commits (place_after earlier) (place_after earlier)
  behind : {commits earlier : List (Commit W)} {c : Commit W} {j : ℕ}
      → Stands commits c earlier → InPast earlier c.handler c.deeds j → UpTo commits (place_after earlier) j

-- A commit of a set wrote a later version of the cell y than the source did.
pub record Later {W : Type 0} (commits : List (Commit W)) (Included : ℕ → Type 0) (y source : ℕ) : Type 0 where
  pub commit : Commit W
  pub earlier : List (Commit W)
  pub stands : Stands commits commit earlier
  pub included : Included (place_after earlier)
  pub writes : has_written commit.deeds y ≡ true
  pub later : source < place_after earlier

-- These deeds read the cell y from the cells, and a commit of a set wrote a later version of it than the one read.
pub record Outdated {W : Type 0} (commits : List (Commit W)) (Included : ℕ → Type 0) (deeds : List (Deed W)) (y : ℕ)
    : Type 0 where
  pub source : ℕ
  pub value : Content W
  pub sooner : List (Deed W)
  pub reads : Stands deeds (look y source value) sooner
  pub passed : Later commits Included y source

-- The commit k, or a commit in its causal past, wrote a later version of the cell y than the one that these deeds read.
abbrev pub Tears : {W : Type 0} → List (Commit W) → List (Deed W) → ℕ → ℕ → Type 0
Tears commits deeds k y = Outdated commits (UpTo commits k) deeds y

-- ── As they are computed ──────────────────────────────────────────────

module _ {W : Type 0} where
  -- These deeds read from the cells a version that the commit k wrote.
  unfoldable pub has_read_from : List (Deed W) → ℕ → Bool
  has_read_from deeds k = some_look (λ y source. eqb source k) deeds

  -- A transaction follows a commit directly that is its handler's own, or that wrote a version which it read.
  abbrev pub follows : Commit W → List (Commit W) → ℕ → List (Deed W) → Bool
  follows c earlier i deeds = eqb c.handler i || has_read_from deeds (place_after earlier)

  -- A commit that is followed directly is in the past, with its own past.
  unfoldable pub in_past : List (Commit W) → ℕ → List (Deed W) → ℕ → Bool
  in_past [] i deeds j = false
  in_past (c ∷ commits) i deeds j =
      follows c commits i deeds && (eqb j (place_after commits) || in_past commits c.handler c.deeds j)
      || in_past commits i deeds j

  -- The commit k with its causal past.
  unfoldable pub up_to : List (Commit W) → ℕ → ℕ → Bool
  up_to [] k j = false
  up_to (c ∷ commits) k j =
      if eqb k (place_after commits) then (eqb j (place_after commits) || in_past commits c.handler c.deeds j)
      else (up_to commits k j)

  -- The last commit of handler i; 0, the opening, where it has none.
  unfoldable pub last_of : List (Commit W) → ℕ → ℕ
  last_of [] i = 0
  last_of (c ∷ commits) i = if eqb c.handler i then place_after commits else (last_of commits i)

  -- A commit of a set wrote a later version of y than the source did.
  unfoldable pub later : List (Commit W) → (ℕ → Bool) → ℕ → ℕ → Bool
  later [] included y source = false
  later (c ∷ commits) included y source =
      included (place_after commits) && (has_written c.deeds y && ltb source (place_after commits))
      || later commits included y source

  -- These deeds read y from the cells, and a commit of a set wrote a later version of it than the one read.
  unfoldable pub outdated : List (Commit W) → (ℕ → Bool) → List (Deed W) → ℕ → Bool
  outdated commits included deeds y = some_look (λ z source. eqb y z && later commits included z source) deeds

  -- The lowest of m cells of which the commit k, or a commit in its past, wrote a later version than the one that these deeds read, if there is one.
  unfoldable pub tears_at : ℕ → List (Commit W) → List (Deed W) → ℕ → Option ℕ
  tears_at m commits deeds k = lowest m (outdated commits (up_to commits k) deeds)
