-- Laws of the versions of one cell, from what the rows of the commits note: who wrote the present one, how many there are, what the
-- present one shows, and whether there is a later one.
use Rattle.std.specs.Prelude.{if◌then◌else◌}
use Prim.Native.Nat.{ℕ, zero, suc, ◌+◌, ◌<◌}
use native.Mathlib.Omega.{arith}
use native.Mathlib.Numerals.{add-one}
use mathlib.Core.Path.{◌≡◌, refl, sym, ap, ◌∙◌}
use mathlib.Core.Bool.{Bool, true, false, ◌&&◌}
use mathlib.Core.List.{List}
use lib.Dec.{ltb}
use borrow.Author.Tests.{lt-ltb}
use Rattle.rules.specs.steps.Tables.{lowest, some_below}
use Rattle.rules.specs.steps.Replies.{Content, value}
use Rattle.rules.specs.steps.Figure.{version_shows}
use Rattle.rules.specs.history.History.{has_written, writer_among, writer, every_commit}
use Rattle.rules.specs.history.Past.{later}
use Rattle.rules.specs.history.Replay.{replay}
use Rattle.rules.specs.demand.Judge.{version_count}
use Rattle.rules.proofs.steps.Tables.{by}
use Rattle.rules.proofs.steps.Searches.{some_next}
use Rattle.rules.proofs.steps.Steps.{shows_nothing, shows_value}
use Rattle.rules.proofs.history.Versions.{writer_new, writer_old, count_new, count_old}
use Rattle.ledger.specs.Entries.{commit_row, Entry, entry_in}
use Rattle.ledger.specs.Histories.{commits_in}
use Rattle.ledger.proofs.Deeds.{written_at_lem, leaves_at}
use Rattle.ledger.proofs.Commits.{commit_after, commits_count}

-- The entry of the commit at a place.
abbrev entry_at : List ℕ → ℕ → Entry
entry_at words place = entry_in words (commit_row place)

-- The commit at a place is of a set, and wrote a later version of x than the source did.
abbrev pub is_later : List ℕ → ℕ → (ℕ → Bool) → ℕ → ℕ → Bool
is_later words x included source place = included place && ((entry_at words place).written x && ltb source place)

-- What the version of x shows that the commit at a place wrote; place 0 is the opening.
abbrev pub version_at : List ℕ → ℕ → ℕ → Content ℕ
version_at words x place = version_shows place ((entry_at words place).copies x)

-- ── One commit more ───────────────────────────────────────────────────

module _ (m : ℕ) (words : List ℕ) (x : ℕ) (inside : x < m) where
  -- The next commit wrote the cell just where its row says so.
  next_wrote : (k : ℕ) {answer : Bool} → (entry_at words (k + 1)).written x ≡ answer → has_written (commit_after m words k).deeds x ≡ answer
  next_wrote k e = written_at_lem (entry_at words (suc k)) m x inside ∙ (rw add-one at e)

  -- Before the first commit the opening is the writer.
  pub writer_none : writer (commits_in m words 0) x ≡ 0
  unfolding writer writer_among commits_in
  writer_none = refl

  -- A commit that wrote the cell is its writer,
  pub writer_wrote : (k : ℕ) → (entry_at words (k + 1)).written x ≡ true → writer (commits_in m words (k + 1)) x ≡ k + 1
  unfolding commits_in
  writer_wrote k e =
      rw add-one (writer_new (commit_after m words k) (commits_in m words k) x (next_wrote k e) ∙ ap suc (commits_count m words k))

  -- and another leaves the writer as it was.
  pub writer_kept : (k : ℕ) → (entry_at words (k + 1)).written x ≡ false
      → writer (commits_in m words (k + 1)) x ≡ writer (commits_in m words k) x
  unfolding commits_in
  writer_kept k e = rw add-one (writer_old (commit_after m words k) (commits_in m words k) x (next_wrote k e))

  -- Before the first commit no version was written.
  pub versions_none : version_count (commits_in m words 0) x ≡ 0
  unfolding version_count commits_in
  versions_none = refl

  -- A commit that wrote the cell adds a version,
  pub versions_wrote : (k : ℕ) → (entry_at words (k + 1)).written x ≡ true
      → version_count (commits_in m words (k + 1)) x ≡ version_count (commits_in m words k) x + 1
  unfolding commits_in
  versions_wrote k e = rw (add-one k) (count_new (commit_after m words k) (commits_in m words k) x (next_wrote k e) ∙ sym (add-one _))

  -- and another does not.
  pub versions_kept : (k : ℕ) → (entry_at words (k + 1)).written x ≡ false
      → version_count (commits_in m words (k + 1)) x ≡ version_count (commits_in m words k) x
  unfolding commits_in
  versions_kept k e = rw add-one (count_old (commit_after m words k) (commits_in m words k) x (next_wrote k e))

  -- ── All commits ─────────────────────────────────────────────────────

  -- What the next commit leaves in the cell is its copy where it wrote the cell, and else what was there.
  replay_next : (k : ℕ) → replay (commits_in m words (suc k)) every_commit x
      ≡ (if (entry_at words (suc k)).written x then (value ((entry_at words (suc k)).copies x)) else (replay (commits_in m words k) every_commit x))
  unfolding replay commits_in
  replay_next k = leaves_at (entry_at words (suc k)) (replay (commits_in m words k) every_commit) m x ∙ rw (lt-ltb x m inside)

  -- What all commits leave in the cell is what its present version shows.
  pub present_shows : (k : ℕ) → replay (commits_in m words k) every_commit x ≡ version_at words x (writer (commits_in m words k) x)
  present_shows zero = unfold replay commits_in in sym (shows_nothing (writer (commits_in m words 0) x) _ writer_none)
  present_shows (suc k) = replay_next k ∙ by ((entry_at words (suc k)).written x)
      (λ e. let itself : writer (commits_in m words (suc k)) x ≡ suc k = rw add-one at (writer_wrote k (rw add-one e)) in
      rw (e, itself) (sym (shows_value (suc k) _ (omega arith))))
      (λ e. let older : writer (commits_in m words (suc k)) x ≡ writer (commits_in m words k) x = rw add-one at (writer_kept k (rw add-one e)) in
      rw (e, older) (present_shows k))

  -- A commit of a set wrote a later version just where some commit's row says so.
  pub later_at : (included : ℕ → Bool) (source count : ℕ)
      → later (commits_in m words count) included x source ≡ some_below count (λ k. is_later words x included source (k + 1))
  unfolding later commits_in
  later_at included source zero = unfold some_below lowest in refl
  later_at included source (suc k) =
      let test : ℕ → Bool = λ j. is_later words x included source (j + 1) in
      rw (written_at_lem (entry_at words (suc k)) m x inside, commits_count m words k, later_at included source k)
      (sym (rw (add-one k) at (some_next k test)))
