-- The relations of specs/Past.antt say what is computed there: the causal past, a commit with its past, a later version, an
-- outdated read, and what tears.
use Prim.Native.Nat.{ℕ, ◌≤◌, ◌<◌}
use native.Mathlib.Omega.{arith}
use mathlib.Core.Path.{◌≡◌, refl, sym, ap, ◌∙◌, subst}
use mathlib.Core.Bool.{Bool, true, not, ◌&&◌, false≢true, or-true}
use mathlib.Core.List.{List, [], ◌∷◌}
use mathlib.Core.Logic.Iff
use mathlib.Core.Logic.{◌↔◌}
use mathlib.Core.Option.{some}
use lib.ListN.{length}
use lib.Dec.{eqb, ltb}
use borrow.Author.Tests.{ltb-true, eqb-true, eqb-false, lt-ltb, eq-eqb, ne_eqb, not-true}
use Rattle.rules.specs.steps.Tables.{LowestOf}
use Rattle.rules.specs.history.History.{Deed, Commit, has_written, place_after, writer}
use Rattle.rules.specs.history.Past.{Stands, last, older, InPast, own, drew, before, UpTo, itself, behind, Later, Outdated, Tears}
use Rattle.rules.specs.history.Past.{has_read_from, follows, in_past, up_to, later, outdated, tears_at}
use Rattle.rules.specs.demand.Judge.{version_count, stale, full, Overtaken, Exhausted}
use Rattle.rules.proofs.steps.Tables.{by, both_ways, either, and_left, and_right, and_both, lowest_tells}
use Rattle.rules.proofs.history.Pasts.{with_past, past_none, up_to_old}
use Rattle.rules.proofs.history.Deeds.{stands_before, EachRead, PassingAt, look_found, read_from_there, look_of_cell}

module _ {W : Type 0} where
  -- The place of a commit that stands.
  stands_place : {commits earlier : List (Commit W)} {c : Commit W} → Stands commits c earlier
      → place_after earlier ≤ length commits
  stands_place last = omega arith
  stands_place (older s) = omega (arith, stands_place s)

  -- ── The causal past ─────────────────────────────────────────────────

  -- One more commit leaves what is in the past there.
  past_older : {commits : List (Commit W)} {i j : ℕ} {deeds : List (Deed W)} (c : Commit W)
      → InPast commits i deeds j → InPast (c ∷ commits) i deeds j
  past_older c (own s e) = own (older s) e
  past_older c (drew s e) = drew (older s) e
  past_older c (before s p q) = before (older s) (past_older c p) q

  -- A commit that a transaction follows directly is in its past.
  followed : (c : Commit W) (commits : List (Commit W)) (i : ℕ) (deeds : List (Deed W))
      → follows c commits i deeds ≡ true → InPast (c ∷ commits) i deeds (place_after commits)
  followed c commits i deeds h = either (eqb c.handler i) (has_read_from deeds (place_after commits)) h
      (λ e. own last (eqb-true c.handler i e))
      (λ e. let t = look_found (λ y source. eqb source (place_after commits)) deeds (unfold has_read_from in e) in
      let q = t.1 in
      drew {y = t.0} {v = q.value} last (rw (eqb-true q.source (place_after commits) q.passes) at q.stands))

  -- What is computed is in the past.
  computed_past : (commits : List (Commit W)) (i : ℕ) (deeds : List (Deed W)) (j : ℕ) → in_past commits i deeds j ≡ true
      → InPast commits i deeds j
  unfolding in_past
  computed_past [] i deeds j h = absurd (false≢true h)
  computed_past (c ∷ commits) i deeds j h =
      let direct : Bool = follows c commits i deeds in
      either (direct && with_past c commits j) (in_past commits i deeds j) h
      (λ e. let first : InPast (c ∷ commits) i deeds (place_after commits)
      = followed c commits i deeds (and_left direct (with_past c commits j) e) in
      either (eqb j (place_after commits)) (in_past commits c.handler c.deeds j) (and_right direct (with_past c commits j) e)
      (λ q. subst (InPast (c ∷ commits) i deeds) (sym (eqb-true j (place_after commits) q)) first)
      (λ q. before last first (computed_past commits c.handler c.deeds j q)))
      (λ e. past_older c (computed_past commits i deeds j e))

  -- One more commit takes nothing from a past.
  past_grows : (c : Commit W) (commits : List (Commit W)) (i : ℕ) (deeds : List (Deed W)) (j : ℕ)
      → in_past commits i deeds j ≡ true → in_past (c ∷ commits) i deeds j ≡ true
  unfolding in_past
  past_grows c commits i deeds j e = rw e (or-true (follows c commits i deeds && with_past c commits j))

  -- What a transaction follows directly is computed,
  past_direct : {commits earlier : List (Commit W)} {c : Commit W} (i : ℕ) (deeds : List (Deed W)) → Stands commits c earlier
      → follows c earlier i deeds ≡ true → in_past commits i deeds (place_after earlier) ≡ true
  past_direct i deeds (last {earlier = earlier}) e =
      unfold in_past in (rw (e, eq-eqb (place_after earlier) (place_after earlier) refl))
  past_direct {earlier = earlier} i deeds (older {b = b} {list = list} s) e =
      past_grows b list i deeds (place_after earlier) (past_direct i deeds s e)

  -- and so is the past of what is computed.
  past_before : {commits earlier : List (Commit W)} {c : Commit W} (i : ℕ) (deeds : List (Deed W)) (j : ℕ)
      → Stands commits c earlier
      → in_past commits i deeds (place_after earlier) ≡ true → in_past earlier c.handler c.deeds j ≡ true
      → in_past commits i deeds j ≡ true
  unfolding in_past
  past_before i deeds j (last {a = c} {earlier = earlier}) p q =
      let place : ℕ = place_after earlier in
      let direct : follows c earlier i deeds ≡ true
      = either (follows c earlier i deeds && with_past c earlier place) (in_past earlier i deeds place) p
      (λ e. and_left (follows c earlier i deeds) (with_past c earlier place) e)
      (λ e. both_ways e (past_none earlier i deeds place (omega arith))) in
      rw (direct, q) (rw (or-true (eqb j place)))
  past_before {earlier = earlier} i deeds j (older {b = b} {list = list} s) p q =
      let place : ℕ = place_after earlier in
      either (follows b list i deeds && with_past b list place) (in_past list i deeds place) p
      (λ e. let through : in_past list b.handler b.deeds place ≡ true
      = rw (ne_eqb place (place_after list) (omega (arith, stands_place s)))
      at (and_right (follows b list i deeds) (with_past b list place) e) in
      rw (and_left (follows b list i deeds) (with_past b list place) e, past_before b.handler b.deeds j s through q)
      (rw (or-true (eqb j (place_after list)))))
      (λ e. past_grows b list i deeds j (past_before i deeds j s e q))

  -- What is in the past is computed.
  past_computed : {commits : List (Commit W)} {i j : ℕ} {deeds : List (Deed W)} → InPast commits i deeds j
      → in_past commits i deeds j ≡ true
  past_computed {i = i} {deeds = deeds} (own {c = c} s e) = past_direct i deeds s (rw (eq-eqb c.handler i e))
  past_computed {i = i} {deeds = deeds} (drew {c = c} s q) =
      past_direct i deeds s (rw (read_from_there deeds q) (or-true (eqb c.handler i)))
  past_computed {i = i} {j = j} {deeds = deeds} (before s p q) = past_before i deeds j s (past_computed p) (past_computed q)

  -- The causal past as it is computed is the causal past.
  pub past_is : (commits : List (Commit W)) (i : ℕ) (deeds : List (Deed W)) (j : ℕ)
      → (in_past commits i deeds j ≡ true) ↔ InPast commits i deeds j
  past_is commits i deeds j = (computed_past commits i deeds j, past_computed)

  -- A set holds the commits that a transaction follows directly.
  abbrev pub HoldsFollowed : (ℕ → Bool) → List (Commit W) → ℕ → List (Deed W) → Type 0
  HoldsFollowed included commits i deeds = (c : Commit W) (earlier : List (Commit W)) → Stands commits c earlier
      → follows c earlier i deeds ≡ true → included (place_after earlier) ≡ true

  -- A past is the least set that holds what its transaction follows directly, and what each commit of the set does.
  pub past_least : {commits : List (Commit W)} {i j : ℕ} {deeds : List (Deed W)} (included : ℕ → Bool)
      → ((c : Commit W) (earlier : List (Commit W)) → Stands commits c earlier → included (place_after earlier) ≡ true
      → HoldsFollowed included earlier c.handler c.deeds)
      → HoldsFollowed included commits i deeds → InPast commits i deeds j → included j ≡ true
  past_least {i = i} included closed holds (own {earlier = earlier} {c = c} s e) =
      holds c earlier s (rw (eq-eqb c.handler i e))
  past_least {i = i} {deeds = deeds} included closed holds (drew {earlier = earlier} {c = c} s q) =
      holds c earlier s (rw (read_from_there deeds q) (or-true (eqb c.handler i)))
  past_least included closed holds (before {earlier = earlier} {c = c} s p q) =
      past_least included (λ d sooner t. closed d sooner (stands_before s t))
      (closed c earlier s (past_least included closed holds p)) q

  -- ── A commit with its past ──────────────────────────────────────────

  -- One more commit leaves what is there.
  up_to_older : {commits : List (Commit W)} {k j : ℕ} (c : Commit W) → UpTo commits k j → UpTo (c ∷ commits) k j
  up_to_older c (itself s) = itself (older s)
  up_to_older c (behind s p) = behind (older s) p

  -- What is computed is there.
  computed_up_to : (commits : List (Commit W)) (k j : ℕ) → up_to commits k j ≡ true → UpTo commits k j
  unfolding up_to
  computed_up_to [] k j h = absurd (false≢true h)
  computed_up_to (c ∷ commits) k j h = by (eqb k (place_after commits))
      (λ e. subst (λ n. UpTo (c ∷ commits) n j) (sym (eqb-true k (place_after commits) e))
      (either (eqb j (place_after commits)) (in_past commits c.handler c.deeds j) (rw e at h)
      (λ q. subst (UpTo (c ∷ commits) (place_after commits)) (sym (eqb-true j (place_after commits) q)) (itself last))
      (λ q. behind last (computed_past commits c.handler c.deeds j q))))
      (λ e. up_to_older c (computed_up_to commits k j (rw e at h)))

  -- Of a commit that stands, it is the commit with its past.
  up_to_at : {commits earlier : List (Commit W)} {c : Commit W} (j : ℕ) → Stands commits c earlier
      → up_to commits (place_after earlier) j ≡ with_past c earlier j
  up_to_at j (last {earlier = earlier}) = unfold up_to in (rw (eq-eqb (place_after earlier) (place_after earlier) refl))
  up_to_at {earlier = earlier} j (older {b = b} {list = list} s) =
      ap (λ f. f j) (up_to_old b list (place_after earlier) (stands_place s)) ∙ up_to_at j s

  -- What is there is computed.
  up_to_computed : {commits : List (Commit W)} {k j : ℕ} → UpTo commits k j → up_to commits k j ≡ true
  up_to_computed (itself {earlier = earlier} s) =
      up_to_at (place_after earlier) s ∙ rw (eq-eqb (place_after earlier) (place_after earlier) refl)
  up_to_computed {j = j} (behind {earlier = earlier} s p) =
      up_to_at j s ∙ rw (past_computed p) (or-true (eqb j (place_after earlier)))

  -- A commit with its past, as it is computed, is that.
  pub up_to_is : (commits : List (Commit W)) (k j : ℕ) → (up_to commits k j ≡ true) ↔ UpTo commits k j
  up_to_is commits k j = (computed_up_to commits k j, up_to_computed)

-- ── Later versions, where a test tells what is included ───────────────

module _ {W : Type 0} (included : ℕ → Bool) (Included : ℕ → Type 0) (tells : (j : ℕ) → (included j ≡ true) ↔ Included j) where
  -- One more commit leaves a later version there.
  later_older : {commits : List (Commit W)} {y source : ℕ} (c : Commit W) → Later commits Included y source
      → Later (c ∷ commits) Included y source
  later_older c q = record {
    commit = q.commit;
    earlier = q.earlier;
    stands = older q.stands;
    included = q.included;
    writes = q.writes;
    later = q.later;
  }

  -- Where a later version is computed there is one,
  computed_later : (commits : List (Commit W)) (y source : ℕ) → later commits included y source ≡ true
      → Later commits Included y source
  unfolding later
  computed_later [] y source h = absurd (false≢true h)
  computed_later (c ∷ commits) y source h =
      let place : ℕ = place_after commits in
      let written : Bool = has_written c.deeds y in
      either (included place && (written && ltb source place)) (later commits included y source) h
      (λ e. let both : written && ltb source place ≡ true = and_right (included place) (written && ltb source place) e in
      record {
        commit = c;
        earlier = commits;
        stands = last;
        included = (tells place).0 (and_left (included place) (written && ltb source place) e);
        writes = and_left written (ltb source place) both;
        later = ltb-true source place (and_right written (ltb source place) both);
      })
      (λ e. later_older c (computed_later commits y source e))

  -- and where there is one it is computed.
  later_computed : {commits earlier : List (Commit W)} {c : Commit W} (y source : ℕ) → Stands commits c earlier
      → included (place_after earlier) ≡ true → has_written c.deeds y ≡ true → source < place_after earlier
      → later commits included y source ≡ true
  unfolding later
  later_computed y source (last {earlier = earlier}) p w l = rw (p, w, lt-ltb source (place_after earlier) l)
  later_computed y source (older {b = b} {list = list} s) p w l = rw (later_computed y source s p w l)
      (or-true (included (place_after list) && (has_written b.deeds y && ltb source (place_after list))))

  -- A later version, as it is computed, is one.
  pub later_tells : (commits : List (Commit W)) (y source : ℕ)
      → (later commits included y source ≡ true) ↔ Later commits Included y source
  later_tells commits y source = (
    computed_later commits y source,
    (λ q. later_computed y source q.stands ((tells (place_after q.earlier)).1 q.included) q.writes q.later),
  )

  -- A read that passes the test of a later version is outdated.
  passing_outdated : (commits : List (Commit W)) (deeds : List (Deed W)) (y : ℕ)
      → PassingAt (later commits included) deeds y ↔ Outdated commits Included deeds y
  passing_outdated commits deeds y = (
    (λ q. record {
      source = q.source;
      value = q.value;
      sooner = q.sooner;
      reads = q.stands;
      passed = (later_tells commits y q.source).0 q.passes;
    }),
    (λ q. record {
      source = q.source;
      value = q.value;
      sooner = q.sooner;
      stands = q.reads;
      passes = (later_tells commits y q.source).1 q.passed;
    }),
  )

  -- An outdated read, as it is computed, is one.
  pub outdated_is : (commits : List (Commit W)) (deeds : List (Deed W)) (y : ℕ)
      → (outdated commits included deeds y ≡ true) ↔ Outdated commits Included deeds y
  unfolding outdated
  outdated_is commits deeds y = Iff.trans (look_of_cell (later commits included) deeds y) (passing_outdated commits deeds y)

-- ── What tears, and what is overtaken or exhausted ────────────────────

-- A cell that is computed to be outdated by a commit and its past is one that they tear.
pub tears_at_lem : {W : Type 0} (commits : List (Commit W)) (deeds : List (Deed W)) (k y : ℕ)
    → (outdated commits (up_to commits k) deeds y ≡ true) ↔ Tears commits deeds k y
tears_at_lem commits deeds k y = outdated_is (up_to commits k) (UpTo commits k) (up_to_is commits k) commits deeds y

-- Of deeds that read none but m cells.
module _ {W : Type 0} (m : ℕ) (commits : List (Commit W)) (deeds : List (Deed W))
    (inside : EachRead (λ y source v. y < m) deeds) where
  -- The cell that is computed to tear is the lowest that does.
  pub tears_is : (k y : ℕ) → (tears_at m commits deeds k ≡ some y) ↔ LowestOf (Tears commits deeds k) y
  unfolding tears_at
  tears_is k = lowest_tells m (outdated commits (up_to commits k) deeds) (Tears commits deeds k) tells
    where
      tells : (y : ℕ) → ((y < m) × (outdated commits (up_to commits k) deeds y ≡ true)) ↔ Tears commits deeds k y
      tells y =
          let told = tears_at_lem commits deeds k y in
          ((λ p. told.0 p.1), (λ t. (inside y t.source t.value t.sooner t.reads, told.1 t)))

  -- A cell below m whose version read is computed to be stale is one that is overtaken.
  pub stale_tells : (y : ℕ) → ((y < m) × (stale commits deeds y ≡ true)) ↔ Overtaken commits deeds y
  unfolding stale
  stale_tells y = (to, from)
    where
      test : ℕ → ℕ → Bool
      test z source = not (eqb source (writer commits z))

      to : (y < m) × (stale commits deeds y ≡ true) → Overtaken commits deeds y
      to p =
          let q = (look_of_cell test deeds y).0 p.1 in
          record {
            source = q.source;
            value = q.value;
            sooner = q.sooner;
            reads = q.stands;
            passed = eqb-false q.source (writer commits y) (not-true (eqb q.source (writer commits y)) q.passes);
          }

      from : Overtaken commits deeds y → (y < m) × (stale commits deeds y ≡ true)
      from q = (
        inside y q.source q.value q.sooner q.reads,
        (look_of_cell test deeds y).1 (record {
          source = q.source;
          value = q.value;
          sooner = q.sooner;
          stands = q.reads;
          passes = ap not (ne_eqb q.source (writer commits y) q.passed);
        }),
      )

  -- A cell below m that is computed to be full is exhausted, where none but m cells were written.
  pub full_tells : ((y : ℕ) → has_written deeds y ≡ true → y < m) → (y : ℕ)
      → ((y < m) × (full commits deeds y ≡ true)) ↔ Exhausted commits deeds y
  unfolding full
  full_tells within y =
      let counted : Bool = eqb (version_count commits y) 65535 in (
        (λ p. record {
          writes = and_left (has_written deeds y) counted p.1;
          versions = eqb-true (version_count commits y) 65535 (and_right (has_written deeds y) counted p.1);
        }),
        (λ q. (within y q.writes, and_both (has_written deeds y) counted q.writes (eq-eqb (version_count commits y) 65535 q.versions))),
      )
