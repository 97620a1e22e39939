-- The answer to a read and to a try, by what is asked of the handler's row and of the commits; and what is then to be noted.
use Rattle.std.proofs.Common.{ℕ, ◌<◌, arith, ◌≡◌, refl, sym, ap, ap₂, ◌∙◌, Bool, true, false, ◌||◌, List, [], ◌∷◌}
use Rattle.std.specs.Option.{unwrap_or}
use Rattle.std.specs.Prelude as Given
use Rattle.replies.specs.Meaning.{content_is}
use mathlib.Core.Option.{Option, none, some}
use Rattle.rules.specs.steps.Tables.{lowest}
use Rattle.rules.specs.steps.Codes.{Step, try, read}
use Rattle.rules.specs.steps.Replies.{torn, overtaken, Content, shows, committed, aborted}
use Rattle.rules.specs.steps.Register.{Setting}
use Rattle.rules.specs.steps.Checks.{◌naming◌, first_hit}
use Rattle.rules.specs.history.History.{Deed, Commit, has_read, has_written, writer, every_commit}
use Rattle.rules.specs.history.Past.{tears_at}
use Rattle.rules.specs.history.Replay.{replay}
use Rattle.rules.specs.demand.Judge.{copied, stale, or_aborted, answer_read, answer_try, answer}
use Rattle.rules.proofs.demand.NeverSpent.{short_try}
use Rattle.layout.specs.Places.{cells_of, handlers_of}
use Rattle.layout.specs.View.{word_setting}
use Rattle.ledger.specs.Entries.{Ledger, Entry, entry_in, with_entry, commits_noted, most_commits, handler_row}
use Rattle.ledger.specs.Histories.{deeds_of, commits_in, history_in}
use Rattle.ledger.specs.Noting.{empty_entry, read_entry, content_word, note_read, note_outcome, note_commit_row}
use Rattle.ledger.specs.Promises.{is_commit}
use Rattle.ledger.proofs.Commits.{commits_count}
use Rattle.ledger.proofs.Faithful.{now_is}
use Rattle.judge.specs.Taking.{answer_of, JudgeReady, HasRoom, TakesNoted}

-- What is noted in a row that is the handler's is noted in the handler's row.
pub in_row : (words : List ℕ) (i : ℕ) {row : ℕ} {after : List ℕ} (new : Entry → Entry) → row ≡ handler_row i
    → after ≡ with_entry words row (new (entry_in words row)) → after ≡ with_entry words (handler_row i) (new (entry_in words (handler_row i)))
in_row words i new there left = left ∙ ap (λ (k : ℕ). with_entry words k (new (entry_in words k))) there

module _ (words : List ℕ) where
  -- The rules over these words.
  abbrev S : Setting ℕ
  S = word_setting (cells_of words)

  -- The commits that they note.
  abbrev pub commits : List (Commit ℕ)
  commits = commits_in (cells_of words) words (commits_noted words)

  -- The deeds that they note of handler i.
  abbrev pub deeds : ℕ → List (Deed ℕ)
  deeds i = deeds_of (entry_in words (handler_row i)) (cells_of words)

  -- Handler i has read or written the cell x.
  abbrev pub touched : ℕ → ℕ → Bool
  touched i x = has_read (deeds i) x || has_written (deeds i) x

  -- The lowest cell by which the version of x that the commits leave is torn from what handler i has read, if there is one.
  abbrev pub torn_by : ℕ → ℕ → Option ℕ
  torn_by i x = tears_at (cells_of words) commits (deeds i) (writer commits x)

  -- The lowest cell that handler i has read in a version that is not the present one, if there is one.
  abbrev pub stale_cell : ℕ → Option ℕ
  stale_cell i = lowest (cells_of words) (stale commits (deeds i))

module _ {words : List ℕ} {i : ℕ} (ledger : Ledger words) (seat : i < handlers_of words) where
  -- The answer to a read is asked of the row and of the commits,
  read_asked : (x : ℕ) → answer_of words i (read x) ≡ answer_read (S words) (commits words) (deeds words i) x
  unfolding answer history_in
  read_asked x = ap (λ (done : List (Deed ℕ)). answer_read (S words) (commits words) done x) (now_is ledger seat)

  -- and so is the answer to a try: there are too few commits for abort 3.
  pub try_asked : answer_of words i try ≡ or_aborted (first_hit ((overtaken naming stale_cell words i) ∷ [])) committed
  unfolding answer history_in
  try_asked =
      ap (answer_try (S words) (commits words)) (now_is ledger seat)
      ∙ short_try (S words) (commits words) (deeds words i) (omega (arith, ledger.few, commits_count (cells_of words) words (commits_noted words)))

module _ {words : List ℕ} {m i x : ℕ} (ready : JudgeReady words m i (read x)) where
  -- The row of the handler.
  abbrev entry : Entry
  entry = entry_in words (handler_row i)

  -- A cell that was read or written is answered with what its copy shows,
  answer_again : touched words i x ≡ true → answer_of words i (read x) ≡ shows (copied (deeds words i) x)
  unfolding answer_read
  answer_again t = read_asked ready.ledger ready.handler x ∙ rw t

  module _ (first : touched words i x ≡ false) where
    -- a first read of another with abort 1 where it is torn,
    answer_torn : (y : ℕ) → torn_by words i x ≡ some y → answer_of words i (read x) ≡ aborted (torn y)
    unfolding answer_read first_hit or_aborted
    answer_torn y t = read_asked ready.ledger ready.handler x ∙ rw (first, t)

    -- and else with what the present version shows.
    answer_first : torn_by words i x ≡ none → answer_of words i (read x) ≡ shows (replay (commits words) every_commit x)
    unfolding answer_read first_hit or_aborted
    answer_first t = read_asked ready.ledger ready.handler x ∙ rw (first, t)

  -- What the history says of the cell is what the row says.
  touched_is : has_read ((history_in words).now i) x || has_written ((history_in words).now i) x ≡ touched words i x
  touched_is = ap (λ done. has_read done x || has_written done x) (now_is ready.ledger ready.handler)

  -- ── What is taken ───────────────────────────────────────────────────

  -- A read that is answered with what the copy shows leaves the words,
  pub takes_again : {row : ℕ} {content : Content ℕ} → row ≡ handler_row i → content ≡ copied (deeds_of (entry_in words row) (cells_of words)) x
      → touched words i x ≡ true → (v : ℕ) → TakesNoted words i (read x) v (shows content) words
  unfolding note_outcome note_read
  takes_again there found t v = record {
    replied = ap shows (found ∙ ap (λ (k : ℕ). copied (deeds_of (entry_in words k) (cells_of words)) x) there) ∙ sym (answer_again t);
    left = rw (answer_again t, touched_is ∙ t);
  }

  -- one that is torn ends the transaction,
  pub takes_torn : touched words i x ≡ false → (y : ℕ) → torn_by words i x ≡ some y → (v : ℕ) {after : List ℕ}
      → {row : ℕ} → row ≡ handler_row i → after ≡ with_entry words row (empty_entry 0) → TakesNoted words i (read x) v (aborted (torn y)) after
  unfolding note_outcome
  takes_torn first y t v there left = record {
    replied = sym (answer_torn first y t);
    left = in_row words i (λ _. empty_entry 0) there left ∙ rw (answer_torn first y t);
  }

  -- A first read of a cell not written is noted with the commit that wrote what it found.
  first_noted : touched words i x ≡ false → (found : Content ℕ)
      → note_read words i x found ≡ with_entry words (handler_row i) (read_entry entry x (writer (commits words) x) (content_word found))
  unfolding note_read history_in
  first_noted first found = rw (touched_is ∙ first)

  -- and another is noted.
  pub takes_first : touched words i x ≡ false → torn_by words i x ≡ none → (v place word : ℕ) (found : Content ℕ) {after : List ℕ}
      → place ≡ writer (commits words) x → found ≡ replay (commits words) every_commit x → word ≡ content_word found
      → {row : ℕ} → row ≡ handler_row i → after ≡ with_entry words row (read_entry (entry_in words row) x place word)
      → TakesNoted words i (read x) v (shows found) after
  unfolding note_outcome
  takes_first first t v place word found wrote holds noted there left = record {
    replied = ap shows holds ∙ sym (answer_first first t);
    left = in_row words i (λ e. read_entry e x place word) there left
        ∙ ap₂ (λ (source v : ℕ). with_entry words (handler_row i) (read_entry entry x source v)) wrote (noted ∙ ap content_word holds)
        ∙ sym (first_noted first (replay (commits words) every_commit x)) ∙ rw (answer_first first t);
  }

module _ {words : List ℕ} {m i : ℕ} (ready : JudgeReady words m i try) where
  -- A try with a stale read is answered abort 2,
  answer_overtaken : (z : ℕ) → stale_cell words i ≡ some z → answer_of words i try ≡ aborted (overtaken z)
  unfolding or_aborted first_hit
  answer_overtaken z t = try_asked ready.ledger ready.handler ∙ rw t

  -- and one without commit.
  answer_commit : stale_cell words i ≡ none → answer_of words i try ≡ committed
  unfolding or_aborted first_hit
  answer_commit t = try_asked ready.ledger ready.handler ∙ rw t

  -- The one ends the transaction,
  pub takes_overtaken : (z : ℕ) → stale_cell words i ≡ some z → (v : ℕ) {after : List ℕ}
      → {row : ℕ} → row ≡ handler_row i → after ≡ with_entry words row (empty_entry 0) → TakesNoted words i try v (aborted (overtaken z)) after
  unfolding note_outcome
  takes_overtaken z t v there left =
      record { replied = sym (answer_overtaken z t); left = in_row words i (λ _. empty_entry 0) there left ∙ rw (answer_overtaken z t) }

  -- and the other commits.
  pub takes_commit : stale_cell words i ≡ none → (v : ℕ) {after : List ℕ} → after ≡ note_commit_row words i → TakesNoted words i try v committed after
  unfolding note_outcome
  takes_commit t v left = record { replied = sym (answer_commit t); left = left ∙ rw (answer_commit t) }

  -- If there is room for what a try comes to, there is room for its commit.
  pub commit_room : HasRoom words i try → stale_cell words i ≡ none → commits_noted words < most_commits
  commit_room room t = room (ap is_commit (answer_commit t))

-- ── What was asked ────────────────────────────────────────────────────

module _ {words : List ℕ} {m i : ℕ} {s : Step} (ready : JudgeReady words m i s) {told : Option ℕ} where
  -- What was found stale of m cells is what the words' cells say,
  pub stale_told : {row : ℕ} → row ≡ handler_row i
      → told ≡ lowest m (stale (commits_in m words (commits_noted words)) (deeds_of (entry_in words row) m))
      → stale_cell words i ≡ told
  stale_told there e = sym (e ∙ ap₂ (λ cells row. lowest cells (stale (commits_in cells words (commits_noted words))
      (deeds_of (entry_in words row) cells))) ready.cells there)

  -- and so is what was found torn.
  pub torn_told : (x : ℕ) {row place : ℕ} → row ≡ handler_row i → place ≡ writer (commits words) x
      → told ≡ tears_at m (commits_in m words (commits_noted words)) (deeds_of (entry_in words row) m) place → torn_by words i x ≡ told
  torn_told x {place = place} there wrote e =
      ap (tears_at (cells_of words) (commits words) (deeds words i)) (sym wrote)
      ∙ sym (e ∙ ap₂ (λ cells row. tears_at cells (commits_in cells words (commits_noted words)) (deeds_of (entry_in words row) cells) place)
      ready.cells there)

-- What was found of a row that is the handler's is what the handler's row says.
pub touched_told : (words : List ℕ) (i x : ℕ) {row : ℕ} {told : Bool} → row ≡ handler_row i
    → told ≡ has_read (deeds_of (entry_in words row) (cells_of words)) x || has_written (deeds_of (entry_in words row) (cells_of words)) x
    → touched words i x ≡ told
touched_told words i x there e =
    sym (e ∙ ap (λ (k : ℕ). let done = deeds_of (entry_in words k) (cells_of words) in has_read done x || has_written done x) there)

-- The word that is noted of what a read showed is its value, or 0.
pub word_noted : (content : Given.Option ℕ) → unwrap_or content 0 ≡ content_word (content_is content)
word_noted Given.None = refl
word_noted (Given.Some v) = refl
