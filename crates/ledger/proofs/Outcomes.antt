-- After every outcome of a step that no check refuses, the words say the history that the rules note.
use Prim.Native.Nat.{ℕ, zero, suc, ◌<◌}
use native.Mathlib.Omega.{arith}
use mathlib.Core.Path.{◌≡◌, refl, sym, ap, ◌∙◌, subst}
use mathlib.Core.Bool.{true, false, ◌||◌}
use mathlib.Core.List.{List, [], ◌∷◌}
use lib.Dec.{eqb}
use Rattle.rules.specs.steps.Codes.{Step, begin, try, give_up, read, write}
use Rattle.rules.specs.steps.Replies.{torn, Content, Outcome, ok, shows, committed, aborted}
use Rattle.rules.specs.steps.Register.{Setting}
use Rattle.rules.specs.steps.Checks.{first_hit}
use Rattle.rules.specs.steps.Figure.{version_shows}
use Rattle.rules.specs.steps.Given.{Within, phase_for}
use Rattle.rules.specs.history.History.{Deed, look, again, set, Commit, History, some_look, has_read, has_written, writer}
use Rattle.rules.specs.history.History.{every_commit, doing, read_deed, note, note_ok, note_shown, ended}
use Rattle.rules.specs.history.History as Rules
use Rattle.rules.specs.history.Past.{tears_at}
use Rattle.rules.specs.history.Replay.{after, replay}
use Rattle.rules.specs.demand.Judge.{copied, or_aborted, answer_read, answer}
use Rattle.rules.proofs.steps.Tables.{by, both_ways, found, put_each, put_same, or_left, or_right}
use Rattle.rules.proofs.steps.Properties.{shows_no_abort}
use Rattle.rules.proofs.history.Alike.{SameDeeds, SameHistory, deeds_refl, commits_refl, history_refl}
use Rattle.layout.specs.Places.{cells_of, handlers_of}
use Rattle.layout.specs.View.{word_setting}
use Rattle.ledger.specs.Entries.{Ledger, Entry, entry_in, with_entry, commits_noted, most_commits, handler_row}
use Rattle.ledger.specs.Histories.{deeds_of, is_open, history_in}
use Rattle.ledger.specs.Noting.{empty_entry, read_entry, written_entry, content_word, note_read, note_outcome}
use Rattle.ledger.specs.Promises.{is_commit}
use Rattle.ledger.proofs.Deeds.{has_source, reads_at, written_at_lem}
use Rattle.ledger.proofs.OneDeedMore.{read_noted, write_noted}
use Rattle.ledger.proofs.Histories.{empty_deeds, same_deeds}
use Rattle.ledger.proofs.Versions.{version_at, present_shows}
use Rattle.ledger.proofs.Faithful.{Keeps, keeps_itself, entry_keeps, seated, now_is, opened_is, handler_noted}
use Rattle.ledger.proofs.Faithful.{commit_keeps, commit_noted}

-- A repeated read is no deed that an answer asks.
again_same : (x : ℕ) (v : Content ℕ) (deeds : List (Deed ℕ)) → SameDeeds (again x v ∷ deeds) deeds
unfolding some_look has_written copied after
again_same x v deeds = record { looks = λ test. refl; writes = λ y. refl; copies = λ y. refl; leaves = λ table y. refl }

-- Where no source is noted the word is 0.
source_none : (source : ℕ) → has_source source ≡ false → source ≡ 0
unfolding has_source
source_none zero e = refl
source_none (suc source) e = both_ways refl e

-- A first read that is answered with what it shows, shows what all commits leave.
first_shows : (S : Setting ℕ) (commits : List (Commit ℕ)) (deeds : List (Deed ℕ)) (x : ℕ) {content : Content ℕ}
    → has_read deeds x || has_written deeds x ≡ false → shows content ≡ answer_read S commits deeds x → content ≡ replay commits every_commit x
unfolding answer_read first_hit or_aborted
first_shows S commits deeds x {content} first told = found (tears_at S.cell_count commits deeds (writer commits x))
    (λ y t. absurd (shows_no_abort content (torn y) (told ∙ rw (first, t))))
    (λ t. let same : shows content ≡ shows (replay commits every_commit x) = told ∙ rw (first, t) in cc)

-- What a version shows is told by the word noted of it, and its source.
word_shows : (source v : ℕ) {content : Content ℕ} → content ≡ version_shows source v → version_shows source (content_word content) ≡ content
unfolding version_shows
word_shows source v same = rw same (by (eqb source 0) (λ e. rw e) (λ e. rw e))

module _ {words : List ℕ} (ledger : Ledger words) {i : ℕ} (seat : i < handlers_of words) where
  -- The rules over these words, the history that they say, and the handler's entry.
  abbrev S : Setting ℕ
  S = word_setting (cells_of words)

  abbrev h : History ℕ
  h = history_in words

  abbrev entry : Entry
  entry = entry_in words (handler_row i)

  -- A begin is noted.
  begin_noted : SameHistory (doing h i []) (history_in (with_entry words (handler_row i) (empty_entry 1)))
  unfolding doing empty_entry
  begin_noted = handler_noted ledger seat (empty_entry 1) h.aborts refl (same_deeds (sym (empty_deeds 1 (cells_of words))))

  -- An end without a commit is noted.
  end_noted : SameHistory (Rules.note_abort h i) (history_in (with_entry words (handler_row i) (empty_entry 0)))
  unfolding Rules.note_abort ended empty_entry
  end_noted = handler_noted ledger seat (empty_entry 0) _ refl (same_deeds (sym (empty_deeds 0 (cells_of words))))

  -- What all commits leave in a cell is what its present version shows.
  present_said : (x : ℕ) → x < cells_of words → replay h.commits every_commit x ≡ version_at words x (writer h.commits x)
  unfolding history_in
  present_said x inside = present_shows (cells_of words) words x inside (commits_noted words)

  module _ (is_opened : h.opened i ≡ true) where
    -- The handler's entry says that it is open.
    entry_open : is_open entry ≡ true
    entry_open = sym (opened_is ledger seat) ∙ is_opened

    -- A write is noted.
    write_is_noted : (x v : ℕ) → x < cells_of words
        → SameHistory (doing h i (set x v ∷ h.now i)) (history_in (with_entry words (handler_row i) (written_entry entry x v)))
    unfolding doing written_entry
    write_is_noted x v inside = handler_noted ledger seat (written_entry entry x v) h.aborts entry_open
        (subst (λ deeds. SameDeeds (set x v ∷ deeds) (deeds_of (written_entry entry x v) (cells_of words))) (sym (now_is ledger seat))
        (write_noted entry (cells_of words) x v inside))

    -- A repeated read needs no note,
    repeat_is_noted : (x : ℕ) (v : Content ℕ) → SameHistory (doing h i (again x v ∷ h.now i)) h
    unfolding doing
    repeat_is_noted x v = record {
      commits = commits_refl;
      opened = λ j. ap (λ table. table j) (put_same h.opened i true is_opened);
      now = put_each (λ j deeds. SameDeeds deeds (h.now j)) h.now i (again x v ∷ h.now i) (again_same x v (h.now i))
          (λ j apart. deeds_refl);
    }

    -- a first read of a cell not written needs one,
    first_is_noted : (x source v : ℕ) → x < cells_of words → has_read (h.now i) x ≡ false → has_written (h.now i) x ≡ false
        → SameHistory (doing h i (look x source (version_shows source v) ∷ h.now i))
        (history_in (with_entry words (handler_row i) (read_entry entry x source v)))
    unfolding doing read_entry
    first_is_noted x source v inside unread unwritten = handler_noted ledger seat (read_entry entry x source v) h.aborts entry_open
        (subst (λ deeds. SameDeeds (look x source (version_shows source v) ∷ deeds) (deeds_of (read_entry entry x source v) (cells_of words)))
        (sym (now_is ledger seat)) (read_noted entry (cells_of words) x v inside source no_source not_written))
      where
        no_source : entry.sources x ≡ 0
        no_source = source_none (entry.sources x)
            (sym (reads_at entry (cells_of words) x inside) ∙ ap (λ deeds. has_read deeds x) (sym (now_is ledger seat)) ∙ unread)

        not_written : entry.written x ≡ false
        not_written = sym (written_at_lem entry (cells_of words) x inside)
            ∙ ap (λ deeds. has_written deeds x) (sym (now_is ledger seat)) ∙ unwritten

    -- and so a read is noted that is answered as the history tells.
    read_is_noted : (x : ℕ) (content : Content ℕ) → x < cells_of words → shows content ≡ answer_read S h.commits (h.now i) x
        → SameHistory (doing h i (read_deed (h.now i) (writer h.commits x) x content ∷ h.now i)) (history_in (note_read words i x content))
    unfolding note_read read_deed
    read_is_noted x content inside told = by (has_read (h.now i) x || has_written (h.now i) x)
        (λ e. rw e (repeat_is_noted x content))
        (λ e. rw e (subst (λ shown. SameHistory (doing h i (look x (writer h.commits x) shown ∷ h.now i)) noted) (present e)
        (first_is_noted x (writer h.commits x) (content_word content) inside (or_left (has_read (h.now i) x) (has_written (h.now i) x) e)
        (or_right (has_read (h.now i) x) (has_written (h.now i) x) e))))
      where
        noted : History ℕ
        noted = history_in (with_entry words (handler_row i) (read_entry entry x (writer h.commits x) (content_word content)))

        present : has_read (h.now i) x || has_written (h.now i) x ≡ false → version_shows (writer h.commits x) (content_word content) ≡ content
        present first = word_shows (writer h.commits x) _ (first_shows S h.commits (h.now i) x first told ∙ present_said x inside)

  -- An entry put in for the handler keeps the words a ledger.
  entry_put : (e : Entry) → Keeps words (with_entry words (handler_row i) e)
  entry_put e = entry_keeps ledger (handler_row i) e (omega arith) (omega (arith, seated ledger seat))

  -- What the history answers to a step is noted, if there is room for one more commit where it is one.
  pub outcome_noted : (s : Step) (v : ℕ) (outcome : Outcome ℕ) → outcome ≡ answer S h i s → Within (cells_of words) s → h.opened i ≡ phase_for s
      → (is_commit outcome ≡ true → commits_noted words < most_commits)
      → SameHistory (note h i s v outcome) (history_in (note_outcome words i s v outcome))
  unfolding answer note note_ok note_shown note_outcome Rules.note_commit ended
  outcome_noted begin v ok told inside phase room = begin_noted
  outcome_noted (write x) v ok told inside phase room = write_is_noted phase x v inside
  outcome_noted (read x) v ok told inside phase room = history_refl
  outcome_noted try v ok told inside phase room = history_refl
  outcome_noted give_up v ok told inside phase room = history_refl
  outcome_noted (read x) v (shows content) told inside phase room = read_is_noted phase x content inside told
  outcome_noted begin v (shows content) told inside phase room = history_refl
  outcome_noted (write x) v (shows content) told inside phase room = history_refl
  outcome_noted try v (shows content) told inside phase room = history_refl
  outcome_noted give_up v (shows content) told inside phase room = history_refl
  outcome_noted s v committed told inside phase room = commit_noted ledger seat (room refl) h.aborts
  outcome_noted s v (aborted reason) told inside phase room = end_noted

  -- Whatever a step comes to, the words are a ledger of the same m and n afterwards.
  pub outcome_keeps : (s : Step) (v : ℕ) (outcome : Outcome ℕ) → (is_commit outcome ≡ true → commits_noted words < most_commits)
      → Keeps words (note_outcome words i s v outcome)
  unfolding note_outcome note_read
  outcome_keeps begin v ok room = entry_put (empty_entry 1)
  outcome_keeps (write x) v ok room = entry_put (written_entry entry x v)
  outcome_keeps (read x) v ok room = keeps_itself ledger
  outcome_keeps try v ok room = keeps_itself ledger
  outcome_keeps give_up v ok room = keeps_itself ledger
  outcome_keeps (read x) v (shows content) room = by (has_read (h.now i) x || has_written (h.now i) x)
      (λ e. rw e (keeps_itself ledger))
      (λ e. rw e (entry_put (read_entry entry x (writer h.commits x) (content_word content))))
  outcome_keeps begin v (shows content) room = keeps_itself ledger
  outcome_keeps (write x) v (shows content) room = keeps_itself ledger
  outcome_keeps try v (shows content) room = keeps_itself ledger
  outcome_keeps give_up v (shows content) room = keeps_itself ledger
  outcome_keeps s v committed room = commit_keeps ledger seat (room refl)
  outcome_keeps s v (aborted reason) room = entry_put (empty_entry 0)
