-- Laws of replay: what a set of commits leaves is told, cell by cell, by the latest version that it holds.
use Rattle.std.specs.Prelude.{if◌then◌else◌}
use Prim.Native.Nat.{ℕ, suc, ◌≤◌}
use native.Mathlib.Omega.{arith}
use mathlib.Core.Path.{◌≡◌, refl, sym, ◌∙◌}
use mathlib.Core.Bool.{Bool, true, false, ◌&&◌}
use mathlib.Core.List.{List, [], ◌∷◌}
use lib.ListN.{length}
use borrow.Author.Tests.{lt-ltb, le-ltb}
use Rattle.rules.specs.steps.Replies.{Content}
use Rattle.rules.specs.history.History.{Deed, Commit, has_written, place_after, every_commit, writer}
use Rattle.rules.specs.history.Past.{up_to}
use Rattle.rules.specs.history.Replay.{after, first_of, replay}
use Rattle.rules.specs.demand.Judge.{version_count, number_among}
use Rattle.rules.proofs.history.Pasts.{up_to_none, up_to_old}
use Rattle.rules.proofs.history.Versions.{number_most, number_every, number_writer}
use Rattle.rules.proofs.history.Deeds.{after_kept, after_written}

module _ {W : Type 0} where
  -- ── The commits that stood ──────────────────────────────────────────

  -- One more commit leaves the commits that stood as they were.
  pub first_old : (c : Commit W) (commits : List (Commit W)) (stood : ℕ) → stood ≤ length commits
      → first_of stood (c ∷ commits) ≡ first_of stood commits
  unfolding first_of
  first_old c commits stood h = rw (le-ltb (length commits) stood h)

  -- As many as stand are all.
  pub first_all : (commits : List (Commit W)) → first_of (length commits) commits ≡ commits
  unfolding first_of
  first_all [] = refl
  first_all (c ∷ commits) = rw (lt-ltb (length commits) (place_after commits) (omega arith))

  -- ── One more commit ─────────────────────────────────────────────────

  -- A commit outside the set is not done.
  replay_skip : (c : Commit W) (commits : List (Commit W)) (included : ℕ → Bool)
      → included (place_after commits) ≡ false → replay (c ∷ commits) included ≡ replay commits included
  unfolding replay
  replay_skip c commits included e = rw e

  -- One more commit changes nothing of what an older one with its past leaves.
  pub replay_old : (c : Commit W) (commits : List (Commit W)) (k : ℕ) → k ≤ length commits
      → replay (c ∷ commits) (up_to (c ∷ commits) k) ≡ replay commits (up_to commits k)
  replay_old c commits k stood = rw (up_to_old c commits k stood)
      (replay_skip c commits (up_to commits k) (up_to_none commits k (place_after commits) (omega arith)))

  -- All commits, with one more.
  pub replay_every : (c : Commit W) (commits : List (Commit W))
      → replay (c ∷ commits) every_commit ≡ after c.deeds (replay commits every_commit)
  unfolding replay
  replay_every c commits = refl

  -- ── The same version, the same value ────────────────────────────────

  -- One more commit, which is in the first set or not, in the second or not, and wrote the cell or not.
  one_more : (p q wrote : Bool) (deeds : List (Deed W)) (table other : ℕ → Content W) (x a b top : ℕ)
      → has_written deeds x ≡ wrote → a ≤ top → b ≤ top → (a ≡ b → table x ≡ other x)
      → (if p && wrote then suc top else a) ≡ (if q && wrote then suc top else b)
      → (if p then after deeds table else table) x ≡ (if q then after deeds other else other) x
  one_more true true true deeds table other x a b top e h k same g = after_written deeds table other x e
  one_more true true false deeds table other x a b top e h k same g =
      after_kept deeds table x e ∙ same g ∙ sym (after_kept deeds other x e)
  one_more true false true deeds table other x a b top e h k same g = absurd (omega arith)
  one_more true false false deeds table other x a b top e h k same g = after_kept deeds table x e ∙ same g
  one_more false true true deeds table other x a b top e h k same g = absurd (omega arith)
  one_more false true false deeds table other x a b top e h k same g = same g ∙ sym (after_kept deeds other x e)
  one_more false false wrote deeds table other x a b top e h k same g = same g

  -- Sets with the same latest version of a cell leave the same value there.
  pub same_value : (commits : List (Commit W)) (included others : ℕ → Bool) (x : ℕ)
      → number_among commits included x ≡ number_among commits others x → replay commits included x ≡ replay commits others x
  unfolding replay number_among
  same_value [] included others x h = refl
  same_value (c ∷ commits) included others x h =
      one_more (included (place_after commits)) (others (place_after commits)) (has_written c.deeds x) c.deeds
      (replay commits included) (replay commits others) x
      (number_among commits included x) (number_among commits others x) (version_count commits x) refl
      (number_most commits included x) (number_most commits others x) (same_value commits included others x) h

  -- The writer of the present version, with its past, leaves what all commits leave.
  pub present_value : (commits : List (Commit W)) (x : ℕ)
      → replay commits (up_to commits (writer commits x)) x ≡ replay commits every_commit x
  present_value commits x =
      same_value commits (up_to commits (writer commits x)) every_commit x (number_writer commits x ∙ sym (number_every commits x))
