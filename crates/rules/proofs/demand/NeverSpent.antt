-- A history of fewer than 65,535 commits never answers abort 3: no cell has had so many versions. There a try is answered abort 2
-- or commit.
use Prim.Native.Nat.{ℕ, ◌<◌}
use native.Mathlib.Omega.{arith}
use mathlib.Core.Path.{◌≡◌, sym, ap, ◌∙◌}
use mathlib.Core.Bool.{false, ◌||◌, and-false}
use mathlib.Core.List.{List, [], ◌∷◌}
use mathlib.Core.Option.{Option, none, some}
use lib.ListN.{length}
use borrow.Author.Tests.{ne_eqb}
use Rattle.rules.specs.steps.Tables.{lowest}
use Rattle.rules.specs.steps.Codes.{Step, begin, try, give_up, read, write}
use Rattle.rules.specs.steps.Replies.{Reason, torn, overtaken, spent, gave_up, Outcome, committed, aborted, reason_number}
use Rattle.rules.specs.steps.Register.{Setting}
use Rattle.rules.specs.steps.Checks.{◌naming◌, first_hit}
use Rattle.rules.specs.history.History.{Deed, Commit, History, has_read, has_written, writer}
use Rattle.rules.specs.history.Past.{tears_at}
use Rattle.rules.specs.demand.Judge.{version_count, stale, full, or_aborted, answer_read, answer_try, answer}
use Rattle.rules.proofs.steps.Tables.{by, found, lowest_empty}
use Rattle.rules.proofs.steps.Properties.{ok_no_abort, commit_no_abort, shows_no_abort}
use Rattle.rules.proofs.history.Versions.{count_most}

module _ {W : Type 0} (S : Setting W) (commits : List (Commit W)) (deeds : List (Deed W)) (short : length commits < 65535) where
  -- No cell has had 65,535 versions,
  never_full : (y : ℕ) → full commits deeds y ≡ false
  unfolding full
  never_full y =
      rw (ne_eqb (version_count commits y) 65535 (omega (arith, short, count_most commits y))) (and-false (has_written deeds y))

  -- so a try is answered abort 2 where a version read is not the present one, and else commit.
  pub short_try : answer_try S commits deeds
      ≡ or_aborted (first_hit ((overtaken naming lowest S.cell_count (stale commits deeds)) ∷ [])) committed
  unfolding answer_try first_hit
  short_try = rw (lowest_empty S.cell_count (full commits deeds) (λ y below. never_full y))

module _ {W : Type 0} (y : ℕ) where
  -- Another abort is not abort 3,
  other_not_spent : (reason : Reason) → (reason_number reason ≡ 3 → ⊥) → ◌≡◌ {A = Outcome W} (aborted reason) (aborted (spent y)) → ⊥
  other_not_spent reason other e = let same : reason ≡ spent y = cc in other (ap reason_number same)

  -- nor is abort 2 or commit,
  try_not_spent : (place : Option ℕ)
      → ◌≡◌ {A = Outcome W} (or_aborted (first_hit ((overtaken naming place) ∷ [])) committed) (aborted (spent y)) → ⊥
  unfolding first_hit or_aborted
  try_not_spent (some z) e = other_not_spent (overtaken z) (λ same. absurd (omega (arith, same))) e
  try_not_spent none e = commit_no_abort (spent y) e

  -- nor is an answer to a read.
  read_not_spent : (S : Setting W) (commits : List (Commit W)) (deeds : List (Deed W)) (x : ℕ)
      → answer_read S commits deeds x ≡ aborted (spent y) → ⊥
  unfolding answer_read or_aborted first_hit
  read_not_spent S commits deeds x e = by (has_read deeds x || has_written deeds x)
      (λ copy. shows_no_abort _ (spent y) (rw copy at e))
      (λ first. found (tears_at S.cell_count commits deeds (writer commits x))
      (λ z tear. other_not_spent (torn z) (λ same. absurd (omega (arith, same))) (rw (first, tear) at e))
      (λ whole. shows_no_abort _ (spent y) (rw (first, whole) at e)))

  -- So no step is answered abort 3.
  pub never_spent_lem : (S : Setting W) (h : History W) (i : ℕ) (step : Step) → length h.commits < 65535
      → answer S h i step ≡ aborted (spent y) → ⊥
  unfolding answer
  never_spent_lem S h i begin short e = ok_no_abort (spent y) e
  never_spent_lem S h i (write x) short e = ok_no_abort (spent y) e
  never_spent_lem S h i give_up short e = other_not_spent gave_up (λ same. absurd (omega (arith, same))) e
  never_spent_lem S h i (read x) short e = read_not_spent S h.commits (h.now i) x e
  never_spent_lem S h i try short e =
      try_not_spent (lowest S.cell_count (stale h.commits (h.now i))) (sym (short_try S h.commits (h.now i) short) ∙ e)
