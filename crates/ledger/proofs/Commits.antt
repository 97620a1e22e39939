-- Laws of the commits that the judge's words say: how many they are, which of them stands at a place, that those that come later leave
-- a commit's past as it was, and which of them is a handler's last.
use Prim.Native.Nat.{ℕ, zero, suc, ◌+◌, ◌≤◌, ◌<◌}
use native.Mathlib.Omega.{arith}
use native.Mathlib.Numerals.{add-one}
use mathlib.Core.Path.{◌≡◌, refl, sym, ap, ◌∙◌, subst}
use mathlib.Core.Bool.{false}
use mathlib.Core.List.{List}
use lib.ListN.{length}
use lib.Dec.{eqb}
use borrow.Author.Tests.{eqb-true, eqb-false}
use Rattle.rules.specs.history.History.{Commit}
use Rattle.rules.specs.history.Past.{Stands, last, older, up_to, last_of}
use Rattle.rules.proofs.steps.Tables.{by}
use Rattle.rules.proofs.history.Pasts.{with_past, up_to_beyond, up_to_new, up_to_old, last_of_stood, last_of_new, last_of_other}
use Rattle.ledger.specs.Entries.{commit_row, entry_in}
use Rattle.ledger.specs.Histories.{commit_of, commits_in}

module _ (m : ℕ) (words : List ℕ) where
  -- The commit that comes after the first so many.
  abbrev pub commit_after : ℕ → Commit ℕ
  commit_after k = commit_of m (entry_in words (commit_row (suc k)))

  -- The first so many commits are so many.
  pub commits_count : (k : ℕ) → length (commits_in m words k) ≡ k
  unfolding commits_in
  commits_count zero = refl
  commits_count (suc k) = ap suc (commits_count k)

  -- Each of them stands after those that came earlier.
  pub commit_stands : (count k : ℕ) → k < count → Stands (commits_in m words count) (commit_after k) (commits_in m words k)
  unfolding commits_in
  commit_stands zero k h = absurd (omega arith)
  commit_stands (suc count) k h = by (eqb k count)
      (λ e. subst (λ j. Stands (commits_in m words (suc count)) (commit_after j) (commits_in m words j)) (sym (eqb-true k count e)) last)
      (λ e. older (commit_stands count k (omega (arith, eqb-false k count e))))

  -- The newest of them with its past,
  pub up_to_newest : (k : ℕ) → up_to (commits_in m words (suc k)) (suc k) ≡ with_past (commit_after k) (commits_in m words k)
  unfolding commits_in
  up_to_newest k =
      ap (λ n. up_to (commits_in m words (suc k)) (suc n)) (sym (commits_count k)) ∙ up_to_new (commit_after k) (commits_in m words k)

  -- and one of them with its past, which is the same however many come later.
  pub up_to_first : (count place : ℕ) → place ≤ count → up_to (commits_in m words count) place ≡ up_to (commits_in m words place) place
  up_to_first zero place h = ap (λ k. up_to (commits_in m words k) place) (omega arith)
  up_to_first (suc count) place h = by (eqb place (suc count))
      (λ e. ap (λ k. up_to (commits_in m words k) place) (sym (eqb-true place (suc count) e)))
      (λ e. let stood : place ≤ count = omega (arith, eqb-false place (suc count) e) in
      later stood ∙ up_to_first count place stood)
    where
      later : place ≤ count → up_to (commits_in m words (suc count)) place ≡ up_to (commits_in m words count) place
      later stood = unfold commits_in in up_to_old (commit_after count) (commits_in m words count) place (rw (commits_count count) stood)

  -- The opening, place 0, is no commit and has no past.
  pub up_to_opening : (count j : ℕ) → up_to (commits_in m words count) 0 j ≡ false
  up_to_opening count j = ap (λ f. f j) (up_to_first count 0 (omega arith)) ∙ unfold commits_in up_to in refl

  -- A place beyond the first so many names none of them.
  pub up_to_outside : (count place j : ℕ) → count < place → up_to (commits_in m words count) place j ≡ false
  up_to_outside count place j h = up_to_beyond (commits_in m words count) place j (rw (commits_count count) h)

  -- ── A handler's last commit ─────────────────────────────────────────

  -- It stands among them.
  pub last_stood : (count i : ℕ) {place : ℕ} → place ≡ last_of (commits_in m words count) i → place ≤ count
  last_stood count i same = rw same (rw (commits_count count) at (last_of_stood (commits_in m words count) i))

  -- Among no commits there is none.
  pub last_none : (i : ℕ) → last_of (commits_in m words 0) i ≡ 0
  unfolding commits_in last_of
  last_none i = refl

  -- Among one commit more it is that one, where it is the handler's,
  pub last_own : (k i : ℕ) → (entry_in words (commit_row (k + 1))).head ≡ i → last_of (commits_in m words (k + 1)) i ≡ k + 1
  unfolding commits_in
  last_own k i own = rw (← own, add-one k) (last_of_new (commit_after k) (commits_in m words k) ∙ ap suc (commits_count k))

  -- and else the last one among those that were there.
  pub last_other : (k i : ℕ) → ((entry_in words (commit_row (k + 1))).head ≡ i → ⊥)
      → last_of (commits_in m words (k + 1)) i ≡ last_of (commits_in m words k) i
  unfolding commits_in
  last_other k i other = rw (add-one k) (last_of_other (commit_after k) (commits_in m words k) i (rw (add-one k) at other))
