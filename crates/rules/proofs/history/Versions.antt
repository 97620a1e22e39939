-- Laws of versions by number: the number of the latest version that a set of commits holds, and who wrote it.
use Rattle.std.specs.Prelude.{if◌then◌else◌}
use Prim.Native.Nat.{ℕ, suc, max, ◌≤◌}
use native.Mathlib.Omega.{arith}
use mathlib.Core.Path.{◌≡◌, refl, ◌∙◌}
use mathlib.Core.Bool.{Bool, true, false, ◌&&◌, ◌||◌}
use mathlib.Core.List.{List, [], ◌∷◌}
use lib.ListN.{length}
use borrow.Author.Tests.{eq-eqb, ne_eqb}
use Rattle.rules.specs.history.History.{Commit, has_written, place_after, writer_among, every_commit, writer}
use Rattle.rules.specs.history.Past.{in_past, up_to}
use Rattle.rules.specs.demand.Judge.{version_count, number_among}
use Rattle.rules.proofs.steps.Tables.{by}
use Rattle.rules.proofs.history.Pasts.{with_past, up_to_none, up_to_new, up_to_old}

module _ {W : Type 0} where
  -- ── One more commit ─────────────────────────────────────────────────

  -- A commit that wrote the cell adds a version,
  pub count_new : (c : Commit W) (commits : List (Commit W)) (y : ℕ)
      → has_written c.deeds y ≡ true → version_count (c ∷ commits) y ≡ suc (version_count commits y)
  unfolding version_count
  count_new c commits y e = rw e

  -- and another does not.
  pub count_old : (c : Commit W) (commits : List (Commit W)) (y : ℕ)
      → has_written c.deeds y ≡ false → version_count (c ∷ commits) y ≡ version_count commits y
  unfolding version_count
  count_old c commits y e = rw e

  -- A commit of the set that wrote the cell holds its latest version there.
  pub among_new : (c : Commit W) (commits : List (Commit W)) (included : ℕ → Bool) (y : ℕ)
      → included (place_after commits) && has_written c.deeds y ≡ true
      → (writer_among (c ∷ commits) included y ≡ place_after commits)
      × (number_among (c ∷ commits) included y ≡ suc (version_count commits y))
  unfolding writer_among number_among
  among_new c commits included y e = (rw e, rw e)

  -- Another commit adds nothing to what the set holds of the cell.
  pub among_old : (c : Commit W) (commits : List (Commit W)) (included : ℕ → Bool) (y : ℕ)
      → included (place_after commits) && has_written c.deeds y ≡ false
      → (writer_among (c ∷ commits) included y ≡ writer_among commits included y)
      × (number_among (c ∷ commits) included y ≡ number_among commits included y)
  unfolding writer_among number_among
  among_old c commits included y e = (rw e, rw e)

  -- Nor does a commit outside the set.
  pub number_skip : (c : Commit W) (commits : List (Commit W)) (included : ℕ → Bool) (y : ℕ)
      → included (place_after commits) ≡ false → number_among (c ∷ commits) included y ≡ number_among commits included y
  number_skip c commits included y e = (among_old c commits included y (rw e)).1

  -- A commit that wrote the cell is its writer,
  pub writer_new : (c : Commit W) (commits : List (Commit W)) (x : ℕ)
      → has_written c.deeds x ≡ true → writer (c ∷ commits) x ≡ place_after commits
  unfolding writer
  writer_new c commits x e = (among_new c commits every_commit x e).0

  -- and another leaves the writer as it was.
  pub writer_old : (c : Commit W) (commits : List (Commit W)) (x : ℕ)
      → has_written c.deeds x ≡ false → writer (c ∷ commits) x ≡ writer commits x
  unfolding writer
  writer_old c commits x e = (among_old c commits every_commit x e).0

  -- A cell has had no more versions than there are commits.
  pub count_most : (commits : List (Commit W)) (y : ℕ) → version_count commits y ≤ length commits
  count_most [] y = unfold version_count in omega arith
  count_most (c ∷ commits) y = by (has_written c.deeds y)
      (λ e. omega (arith, count_new c commits y e, count_most commits y))
      (λ e. omega (arith, count_old c commits y e, count_most commits y))

  -- The writer stands.
  pub writer_stood : (commits : List (Commit W)) (x : ℕ) → writer commits x ≤ length commits
  writer_stood [] x = unfold writer writer_among in omega arith
  writer_stood (c ∷ commits) x = by (has_written c.deeds x)
      (λ e. omega (arith, writer_new c commits x e))
      (λ e. omega (arith, writer_old c commits x e, writer_stood commits x))

  -- ── The latest version of a set ─────────────────────────────────────

  -- No set holds a later version than the latest.
  pub number_most : (commits : List (Commit W)) (included : ℕ → Bool) (y : ℕ)
      → number_among commits included y ≤ version_count commits y
  unfolding number_among version_count
  number_most [] included y = omega arith
  number_most (c ∷ commits) included y =
      most (included (place_after commits)) (has_written c.deeds y)
      (number_among commits included y) (version_count commits y) (number_most commits included y)
    where
      most : (inside wrote : Bool) (a b : ℕ) → a ≤ b → (if inside && wrote then suc b else a) ≤ (if wrote then suc b else b)
      most true true a b h = omega arith
      most true false a b h = h
      most false true a b h = omega arith
      most false false a b h = h

  -- All commits hold the latest.
  pub number_every : (commits : List (Commit W)) (y : ℕ) → number_among commits every_commit y ≡ version_count commits y
  unfolding number_among version_count
  number_every [] y = refl
  number_every (c ∷ commits) y = rw (number_every commits y)

  -- Sets that hold the same commits hold the same versions.
  pub number_same : (commits : List (Commit W)) (included others : ℕ → Bool) (y : ℕ)
      → ((j : ℕ) → j ≤ length commits → included j ≡ others j) → number_among commits included y ≡ number_among commits others y
  unfolding number_among
  number_same [] included others y f = refl
  number_same (c ∷ commits) included others y f =
      rw (f (place_after commits) (omega arith), number_same commits included others y (λ j h. f j (omega arith)))

  -- Two sets together hold the later of their latest versions.
  pub number_or : (commits : List (Commit W)) (included others : ℕ → Bool) (y : ℕ)
      → number_among commits (λ j. included j || others j) y ≡ max (number_among commits included y) (number_among commits others y)
  unfolding number_among
  number_or [] included others y = omega arith
  number_or (c ∷ commits) included others y = rw (number_or commits included others y)
      (later_of (included (place_after commits)) (others (place_after commits)) (has_written c.deeds y)
      (number_among commits included y) (number_among commits others y) (version_count commits y)
      (number_most commits included y) (number_most commits others y))
    where
      later_of : (p q wrote : Bool) (a b top : ℕ) → a ≤ top → b ≤ top
          → (if (p || q) && wrote then suc top else (max a b))
          ≡ max (if p && wrote then suc top else a) (if q && wrote then suc top else b)
      later_of true true true a b top h k = omega arith
      later_of true true false a b top h k = refl
      later_of true false true a b top h k = omega arith
      later_of true false false a b top h k = refl
      later_of false true true a b top h k = omega arith
      later_of false true false a b top h k = refl
      later_of false false true a b top h k = refl
      later_of false false false a b top h k = refl

  -- ── A commit with its past ──────────────────────────────────────────

  -- A new commit and its past hold its own versions, and otherwise those of its past.
  pub number_new : (c : Commit W) (commits : List (Commit W)) (y : ℕ)
      → number_among (c ∷ commits) (up_to (c ∷ commits) (place_after commits)) y
      ≡ (if has_written c.deeds y then suc (version_count commits y)
      else (number_among commits (in_past commits c.handler c.deeds) y))
  unfolding number_among
  number_new c commits y = rw (up_to_new c commits, eq-eqb (place_after commits) (place_after commits) refl)
      (rw (number_same commits (with_past c commits) (in_past commits c.handler c.deeds) y
      (λ j h. rw (ne_eqb j (place_after commits) (omega arith)))))

  -- One more commit changes nothing of an older one with its past.
  pub number_old : (c : Commit W) (commits : List (Commit W)) (k y : ℕ) → k ≤ length commits
      → number_among (c ∷ commits) (up_to (c ∷ commits) k) y ≡ number_among commits (up_to commits k) y
  number_old c commits k y stood = rw (up_to_old c commits k stood)
      (number_skip c commits (up_to commits k) y (up_to_none commits k (place_after commits) (omega arith)))

  -- The writer of the present version, with its past, holds the latest version.
  pub number_writer : (commits : List (Commit W)) (x : ℕ)
      → number_among commits (up_to commits (writer commits x)) x ≡ version_count commits x
  number_writer [] x = unfold number_among version_count in refl
  number_writer (c ∷ commits) x = by (has_written c.deeds x)
      (λ e. rw (writer_new c commits x e, count_new c commits x e) (number_new c commits x ∙ rw e))
      (λ e. rw (writer_old c commits x e, count_old c commits x e)
      (number_old c commits (writer commits x) x (writer_stood commits x) ∙ number_writer commits x))
