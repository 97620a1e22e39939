-- The judge's words: 81 rows of 66 words each. Row 0 is the head, with m, n and how many commits are noted; then comes one row for
-- each of 16 handlers, and one for each of 64 commits. What a row says is an entry: what one transaction read and wrote.
use Rattle.std.specs.Prelude.{ℕ, ◌≤◌, Bool, ◌&&◌, List, ◌∷◌, ◌++◌, length, get_or, leb}
use Rattle.rules.specs.steps.Checks.{in_range}
use Rattle.rules.specs.steps.Given.{InRange}
use Rattle.layout.specs.Bits.{has_bit, mask}
use Rattle.layout.specs.Rows.{row, splice}
use Rattle.layout.specs.Places.{cells_of, handlers_of, row_long, row_start, written_at, source_at, copy_at}
pub use Rattle.layout.specs.Places.{ledger_long, handler_row, commit_row, commits_noted}
pub use Rattle.limits.specs.Limits.{most_commits}

-- ── Entries ───────────────────────────────────────────────────────────

-- What a transaction has done, cell by cell: the handler of a commit, or the phase of a handler, 0 idle and else open; the cells
-- written; of each cell the source that it was read from, 0 where it was not, and else 1 more than the place of the commit; and
-- each cell's copy.
pub record Entry : Type 0 where
  pub head : ℕ
  pub written : ℕ → Bool
  pub sources : ℕ → ℕ
  pub copies : ℕ → ℕ

-- The entry that a row says.
unfoldable pub entry_in : List ℕ → ℕ → Entry
entry_in words place = record {
  head = get_or words (row_start place) 0;
  written = has_bit (get_or words (written_at place) 0);
  sources = λ c. get_or words (source_at place c) 0;
  copies = λ c. get_or words (copy_at place c) 0;
}

-- The words of an entry: its head, its written cells as bits, 32 sources, 32 copies.
unfoldable pub pour_entry : Entry → List ℕ
pour_entry e = e.head ∷ mask 32 e.written ∷ (row 32 e.sources ++ row 32 e.copies)

-- The words with an entry in a row, and all other words as they were.
unfoldable pub with_entry : List ℕ → ℕ → Entry → List ℕ
with_entry words place e = splice (row_start place) row_long (pour_entry e) words

-- ── Well kept ─────────────────────────────────────────────────────────

-- Which words are a ledger: m and n in range, the buffer long enough, at most 64 commits noted. Nothing else is required: every row
-- says an entry, whatever its words are.
pub record Ledger (words : List ℕ) : Type 0 where
  pub long : ledger_long ≤ length words
  pub range : InRange (cells_of words) (handlers_of words)
  pub few : commits_noted words ≤ most_commits

-- The test; proofs/Tested.antt shows that it answers exactly that.
unfoldable pub is_ledger : List ℕ → Bool
is_ledger words =
    leb ledger_long (length words) && (in_range (cells_of words) (handlers_of words) && leb (commits_noted words) most_commits)
