-- What the judge notes in its words: as the rules note a history, one entry for one transaction.
use Rattle.std.specs.Prelude.{ℕ, suc, true, ◌||◌, List, set, if◌then◌else◌}
use Rattle.rules.specs.steps.Tables.{put}
use Rattle.rules.specs.steps.Codes.{Step, begin, try, give_up, read, write, Kind, known, unknown}
use Rattle.rules.specs.steps.Replies.{Content, unset, value, Outcome, ok, shows, committed, aborted, Reply, reported}
use Rattle.rules.specs.steps.Register.{no_cells, zeros}
use Rattle.rules.specs.history.History.{has_read, has_written, writer}
use Rattle.ledger.specs.Entries.{commits_noted, handler_row, commit_row, Entry, entry_in, with_entry}
use Rattle.ledger.specs.Histories.{history_in}

-- An entry with nothing noted but its head.
unfoldable pub empty_entry : ℕ → Entry
empty_entry head = record { head = head; written = no_cells; sources = zeros; copies = zeros }

-- A read of x from the cells is noted, with its source and its value.
unfoldable pub read_entry : Entry → ℕ → ℕ → ℕ → Entry
read_entry e x source v =
    record { head = e.head; written = e.written; sources = put e.sources x (suc source); copies = put e.copies x v }

-- A write of x is noted, with its value.
unfoldable pub written_entry : Entry → ℕ → ℕ → Entry
written_entry e x v =
    record { head = e.head; written = put e.written x true; sources = e.sources; copies = put e.copies x v }

-- A transaction's entry as a commit of handler i.
unfoldable pub committed_entry : ℕ → Entry → Entry
committed_entry i e = record { head = i; written = e.written; sources = e.sources; copies = e.copies }

-- The words with another entry for handler i.
abbrev pub with_handler_entry : List ℕ → ℕ → Entry → List ℕ
with_handler_entry words i e = with_entry words (handler_row i) e

-- The word that is noted of what a read showed: a value, or 0 where it showed none; which of the two it was, its source tells.
abbrev pub content_word : Content ℕ → ℕ
content_word unset = 0
content_word (value v) = v

-- A read that showed something: noted where it is the first of a cell not written.
unfoldable pub note_read : List ℕ → ℕ → ℕ → Content ℕ → List ℕ
note_read words i x content =
    let h = history_in words in
    if has_read (h.now i) x || has_written (h.now i) x then words
    else (with_handler_entry words i (read_entry (entry_in words (handler_row i)) x (writer h.commits x) (content_word content)))

-- Handler i's transaction commits: one commit more, and the handler is idle.
unfoldable pub note_commit_row : List ℕ → ℕ → List ℕ
note_commit_row words i =
    let place = suc (commits_noted words) in
    let noted = with_entry words (commit_row place) (committed_entry i (entry_in words (handler_row i))) in
    set (with_handler_entry noted i (empty_entry 0)) 2 place

-- The words after handler i's step, with a value where it is a write, came to an outcome.
unfoldable pub note_outcome : List ℕ → ℕ → Step → ℕ → Outcome ℕ → List ℕ
note_outcome words i begin v ok = with_handler_entry words i (empty_entry 1)
note_outcome words i (write x) v ok = with_handler_entry words i (written_entry (entry_in words (handler_row i)) x v)
note_outcome words i (read x) v ok = words
note_outcome words i try v ok = words
note_outcome words i give_up v ok = words
note_outcome words i (read x) v (shows content) = note_read words i x content
note_outcome words i begin v (shows content) = words
note_outcome words i (write x) v (shows content) = words
note_outcome words i try v (shows content) = words
note_outcome words i give_up v (shows content) = words
note_outcome words i step v committed = note_commit_row words i
note_outcome words i step v (aborted reason) = with_handler_entry words i (empty_entry 0)

-- The words after what handler i asked for got a reply. A refusal changes nothing.
unfoldable pub note_words : List ℕ → ℕ → Kind → ℕ → Reply ℕ → List ℕ
note_words words i (known step) v (reported report) = note_outcome words i step v report.outcome
note_words words i (known step) v (Reply.refused refusal) = words
note_words words i unknown v reply = words
