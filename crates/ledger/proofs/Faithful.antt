-- What is noted in the words is what the rules note: after every outcome, no answer can tell the history that the words say from the
-- history noted by the rules.
use Prim.Native.Nat.{ℕ, suc, ◌+◌, ◌*◌, ◌≤◌, ◌<◌}
use native.Mathlib.Omega.{arith}
use mathlib.Core.Path.{◌≡◌, refl, sym, ◌∙◌, subst₂}
use mathlib.Core.Bool.{Bool, false}
use mathlib.Core.List.{List, [], ◌∷◌}
use lib.ListN.{length, get_or, set, length-set}
use lib.Seq.{get_or-set_same, get_or-set_other}
use Rattle.rules.specs.steps.Given.{InRange}
use Rattle.rules.specs.history.History.{Deed, Abort, transaction}
use Rattle.rules.proofs.history.Alike.{SameDeeds, SameCommits, more, SameHistory}
use Rattle.layout.specs.Places.{cells_of, handlers_of}
use Rattle.layout.proofs.Rows.{below_inside}
use Rattle.ledger.specs.Entries.{Ledger, Entry, entry_in, with_entry, commits_noted, most_commits, handler_row, commit_row}
use Rattle.ledger.specs.Histories.{deeds_of, commits_in, is_open, history_in}
use Rattle.ledger.specs.Noting.{empty_entry, committed_entry, note_commit_row}
use Rattle.ledger.proofs.Entries.{SameEntry, entry_kept, with_untouched, with_here, with_other}
use Rattle.ledger.proofs.Histories.{empty_deeds, committed_deeds, deeds_of_same, commits_kept, same_deeds, same_commits}
use Rattle.ledger.proofs.Histories.{changed, Changes, history_changed}

-- ── An entry put in ───────────────────────────────────────────────────

module _ {words : List ℕ} (ledger : Ledger words) (place : ℕ) (e : Entry) (low : 1 ≤ place) (high : place ≤ 80) where
  -- The row lies in the words.
  pub row_fits : place * 66 + 66 ≤ length words
  row_fits = omega (arith, ledger.long)

  -- An entry leaves the head as it was.
  pub head_kept : (k : ℕ) → k < 66 → get_or (with_entry words place e) k 0 ≡ get_or words k 0
  head_kept k l = (with_untouched words place e row_fits).below k (omega arith)

  -- An entry leaves the words a ledger.
  pub with_ledger : Ledger (with_entry words place e)
  with_ledger = record {
    long = omega (arith, ledger.long, (with_untouched words place e row_fits).size);
    range = subst₂ InRange (sym (head_kept 0 (omega arith))) (sym (head_kept 1 (omega arith))) ledger.range;
    few = omega (arith, head_kept 2 (omega arith), ledger.few);
  }

-- Words are a ledger of the same m and n as before.
pub record Keeps (words after : List ℕ) : Type 0 where
  pub ledger : Ledger after
  pub cells : cells_of after ≡ cells_of words
  pub handlers : handlers_of after ≡ handlers_of words

-- They keep themselves so,
pub keeps_itself : {words : List ℕ} → Ledger words → Keeps words words
keeps_itself ledger = record { ledger = ledger; cells = refl; handlers = refl }

-- and an entry put in does.
pub entry_keeps : {words : List ℕ} → Ledger words → (place : ℕ) (e : Entry) → 1 ≤ place → place ≤ 80 → Keeps words (with_entry words place e)
entry_keeps ledger place e low high = record {
  ledger = with_ledger ledger place e low high;
  cells = head_kept ledger place e low high 0 (omega arith);
  handlers = head_kept ledger place e low high 1 (omega arith);
}

module _ {words : List ℕ} (ledger : Ledger words) {i : ℕ} (seat : i < handlers_of words) where
  -- The handler's row lies behind the head and before the commits.
  pub seated : handler_row i ≤ 16
  seated = omega (arith, seat, ledger.range.handlers)

  -- The handler's deeds are those of its row.
  pub now_is : (history_in words).now i ≡ deeds_of (entry_in words (handler_row i)) (cells_of words)
  unfolding history_in
  now_is = below_inside (handlers_of words) [] (λ k. deeds_of (entry_in words (handler_row k)) (cells_of words)) i seat

  -- The handler is open where its row says so.
  pub opened_is : (history_in words).opened i ≡ is_open (entry_in words (handler_row i))
  unfolding history_in
  opened_is = below_inside (handlers_of words) false (λ k. is_open (entry_in words (handler_row k))) i seat

  -- With another entry for handler i, the words say that it does what the entry says.
  pub handler_noted : {opened : Bool} {deeds : List (Deed ℕ)} (e : Entry) (aborts : List (Abort ℕ)) → is_open e ≡ opened
      → SameDeeds deeds (deeds_of e (cells_of words))
      → SameHistory (changed (history_in words) i opened deeds (history_in words).commits aborts)
      (history_in (with_entry words (handler_row i) e))
  unfolding history_in
  handler_noted e aborts is_opened same = history_changed ledger seat changes aborts is_opened same (same_commits (sym kept))
    where
      after : List ℕ
      after = with_entry words (handler_row i) e

      fits : handler_row i * 66 + 66 ≤ length words
      fits = row_fits ledger (handler_row i) e (omega arith) (omega (arith, seated))

      head : (k : ℕ) → k < 66 → get_or after k 0 ≡ get_or words k 0
      head = head_kept ledger (handler_row i) e (omega arith) (omega (arith, seated))

      changes : Changes words i e (commits_noted words) after
      changes = record {
        cells = head 0 (omega arith);
        handlers = head 1 (omega arith);
        noted = head 2 (omega arith);
        here = with_here words (handler_row i) e fits;
        others = λ j apart l. with_other words (handler_row i) e fits (handler_row j) (omega (arith, apart));
      }

      kept : commits_in (cells_of words) after (commits_noted words) ≡ commits_in (cells_of words) words (commits_noted words)
      kept = commits_kept (cells_of words) words after (commits_noted words) ledger.range.cells
          (λ place low l. with_other words (handler_row i) e fits (commit_row place) (omega (arith, seated)))

-- ── A commit ──────────────────────────────────────────────────────────

-- Two entries that are each the same as a third.
pub entries_trans : {e f g : Entry} → SameEntry e f → SameEntry f g → SameEntry e g
entries_trans a b = record {
  head = a.head ∙ b.head;
  cells = λ c l. record {
    written = (a.cells c l).written ∙ (b.cells c l).written;
    sources = (a.cells c l).sources ∙ (b.cells c l).sources;
    copies = (a.cells c l).copies ∙ (b.cells c l).copies;
  };
}

module _ {words : List ℕ} (ledger : Ledger words) {i : ℕ} (seat : i < handlers_of words) (room : commits_noted words < most_commits) where
  -- The place of the new commit.
  abbrev place : ℕ
  place = suc (commits_noted words)

  -- Its entry.
  abbrev new : Entry
  new = committed_entry i (entry_in words (handler_row i))

  -- The words with that entry,
  abbrev noted : List ℕ
  noted = with_entry words (commit_row place) new

  -- which are a ledger,
  noted_ledger : Ledger noted
  noted_ledger = with_ledger ledger (commit_row place) new (omega arith) (omega arith)

  -- and those with the handler idle besides,
  abbrev cleared : List ℕ
  cleared = with_entry noted (handler_row i) (empty_entry 0)

  -- which are one too.
  cleared_ledger : Ledger cleared
  cleared_ledger = with_ledger noted_ledger (handler_row i) (empty_entry 0) (omega arith) (omega (arith, seated ledger seat))

  -- The number of commits changes no row,
  row_counted : (row : ℕ) → 1 ≤ row → SameEntry (entry_in (note_commit_row words i) row) (entry_in cleared row)
  unfolding note_commit_row
  row_counted row low = entry_kept cleared (set cleared 2 _) row (λ y l. get_or-set_other cleared 2 (row * 66 + y) _ 0 (omega arith))

  -- and is one more.
  pub commit_counted : commits_noted (note_commit_row words i) ≡ place
  unfolding note_commit_row
  commit_counted = get_or-set_same cleared 2 place 0 (omega (arith, cleared_ledger.long))

  -- Of the head only the number of commits changes.
  head_counted : (k : ℕ) → k < 66 → (k ≡ 2 → ⊥) → get_or (note_commit_row words i) k 0 ≡ get_or words k 0
  unfolding note_commit_row
  head_counted k l apart =
      get_or-set_other cleared 2 k place 0 apart
      ∙ head_kept noted_ledger (handler_row i) (empty_entry 0) (omega arith) (omega (arith, seated ledger seat)) k l
      ∙ head_kept ledger (commit_row place) new (omega arith) (omega arith) k l

  -- There are as many words.
  counted_length : length (note_commit_row words i) ≡ length cleared
  unfolding note_commit_row
  counted_length = length-set cleared 2 place

  -- The words are a ledger of the same m and n.
  pub commit_keeps : Keeps words (note_commit_row words i)
  commit_keeps = record {
    ledger = record {
      long = omega (arith, cleared_ledger.long, counted_length);
      range = subst₂ InRange (sym (head_counted 0 (omega arith) (omega arith))) (sym (head_counted 1 (omega arith) (omega arith))) ledger.range;
      few = omega (arith, commit_counted);
    };
    cells = head_counted 0 (omega arith) (omega arith);
    handlers = head_counted 1 (omega arith) (omega arith);
  }

  -- Another row than the handler's is as the new commit's entry leaves it.
  row_noted : (row : ℕ) → 1 ≤ row → (row ≡ handler_row i → ⊥) → SameEntry (entry_in (note_commit_row words i) row) (entry_in noted row)
  row_noted row low apart = entries_trans (row_counted row low)
      (with_other noted (handler_row i) (empty_entry 0)
      (row_fits noted_ledger (handler_row i) (empty_entry 0) (omega arith) (omega (arith, seated ledger seat))) row apart)

  -- A row other than these two is as it was.
  row_kept : (row : ℕ) → 1 ≤ row → (row ≡ handler_row i → ⊥) → (row ≡ commit_row place → ⊥)
      → SameEntry (entry_in (note_commit_row words i) row) (entry_in words row)
  row_kept row low apart away = entries_trans (row_noted row low apart)
      (with_other words (commit_row place) new (row_fits ledger (commit_row place) new (omega arith) (omega arith)) row away)

  -- The commits are those before and the new one.
  commits_noted_lem : SameCommits (transaction (history_in words) i ∷ (history_in words).commits)
      (commits_in (cells_of words) (note_commit_row words i) place)
  unfolding commits_in history_in committed_entry
  commits_noted_lem = more (sym here.head) (same_deeds deeds) (same_commits (sym kept))
    where
      here : SameEntry (entry_in (note_commit_row words i) (commit_row place)) new
      here = entries_trans (row_noted (commit_row place) (omega arith) (omega (arith, seated ledger seat)))
          (with_here words (commit_row place) new (row_fits ledger (commit_row place) new (omega arith) (omega arith)))

      deeds : (history_in words).now i ≡ deeds_of (entry_in (note_commit_row words i) (commit_row place)) (cells_of words)
      deeds = now_is ledger seat ∙ sym (deeds_of_same (cells_of words) ledger.range.cells here
          ∙ committed_deeds i (entry_in words (handler_row i)) (cells_of words))

      kept : commits_in (cells_of words) (note_commit_row words i) (commits_noted words) ≡ commits_in (cells_of words) words (commits_noted words)
      kept = commits_kept (cells_of words) words (note_commit_row words i) (commits_noted words) ledger.range.cells
          (λ k low l. row_kept (commit_row k) (omega arith) (omega (arith, seated ledger seat)) (omega arith))

  -- A commit is noted as one more.
  pub commit_noted : (aborts : List (Abort ℕ))
      → SameHistory
      (changed (history_in words) i false [] (transaction (history_in words) i ∷ (history_in words).commits) aborts)
      (history_in (note_commit_row words i))
  unfolding empty_entry
  commit_noted aborts =
      history_changed ledger seat changes aborts refl (same_deeds (sym (empty_deeds 0 (cells_of words)))) commits_noted_lem
    where
      changes : Changes words i (empty_entry 0) place (note_commit_row words i)
      changes = record {
        cells = head_counted 0 (omega arith) (omega arith);
        handlers = head_counted 1 (omega arith) (omega arith);
        noted = commit_counted;
        here = entries_trans (row_counted (handler_row i) (omega arith))
            (with_here noted (handler_row i) (empty_entry 0)
            (row_fits noted_ledger (handler_row i) (empty_entry 0) (omega arith) (omega (arith, seated ledger seat))));
        others = λ j apart l. row_kept (handler_row j) (omega arith) (omega (arith, apart)) (omega (arith, l, ledger.range.handlers));
      }
