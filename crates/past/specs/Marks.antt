-- For internal contracts alone: what our own functions are called with and leave. Nothing here need be believed.
-- Marks: a set of commits in one word of 64 bits, bit k for the commit at place k + 1; and the pasts that are asked for, as the
-- rules define them of the commits that the judge's words say.
use Rattle.std.specs.Prelude.{ℕ, zero, suc, ◌≡◌, Bool, true, false, ◌||◌, List, eqb, leb, if◌then◌else◌}
use Rattle.rules.specs.history.Past.{in_past, up_to}
use Rattle.layout.specs.Bits.{has_bit}
use Rattle.ledger.specs.Entries.{Entry}
use Rattle.ledger.specs.Histories.{deeds_of, commits_in}

-- ── Pasts ─────────────────────────────────────────────────────────────

-- The past of an entry's transaction, of a handler, after the first so many commits.
abbrev pub past_of_transaction : ℕ → List ℕ → ℕ → ℕ → Entry → ℕ → Bool
past_of_transaction m words count handler e = in_past (commits_in m words count) handler (deeds_of e m)

-- The past of a version: the commit at a place, which wrote it, with that one's past. The opening, place 0, has none.
abbrev pub past_of_version : ℕ → List ℕ → ℕ → ℕ → Bool
past_of_version m words place = up_to (commits_in m words place) place

-- The place that a source word names, among the first so many commits; 0 if it names none of them.
unfoldable pub source_place : ℕ → ℕ → ℕ
source_place zero count = 0
source_place (suc place) count = if leb place count then place else 0

-- ── Marks ─────────────────────────────────────────────────────────────

-- The commit at a place is marked; the opening never is.
unfoldable pub marked : ℕ → ℕ → Bool
marked marks zero = false
marked marks (suc k) = has_bit marks k

-- One commit alone.
abbrev pub only : ℕ → ℕ → Bool
only place j = eqb j place

-- The marks afterwards are those before, and the commits of a set.
pub record Adds (included : ℕ → Bool) (marks after : ℕ) : Type 0 where
  pub each : (j : ℕ) → marked after j ≡ marked marks j || included j

-- A set of commits that has with each commit its past.
pub record Closed (m : ℕ) (words : List ℕ) (included : ℕ → Bool) : Type 0 where
  pub holds : (place j : ℕ) → included place ≡ true → past_of_version m words place j ≡ true → included j ≡ true
