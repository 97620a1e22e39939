-- The history that words say after an entry is put in: another handler's deeds, or one commit more.
use Prim.Native.Nat.{ℕ, zero, suc, ◌≤◌, ◌<◌}
use native.Mathlib.Omega.{arith}
use mathlib.Core.Path.{◌≡◌, refl, sym, ap, ap₂, ◌∙◌, subst, subst₂}
use mathlib.Core.Bool.{Bool, false, not}
use mathlib.Core.List.{List, [], ◌∷◌}
use lib.Dec.{eqb, ltb}
use borrow.Author.Tests.{ltb-true}
use Rattle.rules.specs.steps.Tables.{put}
use Rattle.rules.specs.history.History.{Deed, Commit, Abort, History}
use Rattle.rules.proofs.steps.Tables.{by, put_each}
use Rattle.rules.proofs.history.Alike.{SameDeeds, SameCommits, SameHistory, deeds_refl, commits_refl}
use Rattle.layout.specs.Rows.{below}
use Rattle.layout.specs.Places.{cells_of, handlers_of}
use Rattle.layout.proofs.Rows.{below_inside}
use Rattle.ledger.specs.Entries.{Ledger, Entry, entry_in, commits_noted, handler_row, commit_row}
use Rattle.ledger.specs.Histories.{look_of, set_of, deeds_of, commit_of, commits_in, is_open, history_in}
use Rattle.ledger.specs.Noting.{empty_entry, committed_entry}
use Rattle.ledger.proofs.OneDeedMore.{SameAt}
use Rattle.ledger.proofs.Entries.{SameEntry}

-- Entries that say the same of the first m cells say the same deeds of them.
pub deeds_ext : (m : ℕ) (e f : Entry) → ((c : ℕ) → c < m → SameAt e f c) → deeds_of e m ≡ deeds_of f m
unfolding deeds_of
deeds_ext zero e f same = refl
deeds_ext (suc c) e f same =
    let here = same c (omega arith) in
    rw (here.written, here.sources, here.copies, deeds_ext c e f (λ y l. same y (omega arith)))

-- Entries that are the same say the same deeds.
pub deeds_of_same : (m : ℕ) {e f : Entry} → m ≤ 32 → SameEntry e f → deeds_of e m ≡ deeds_of f m
deeds_of_same m {e} {f} few same = deeds_ext m e f (λ c l. same.cells c (omega arith))

-- An entry with nothing noted says no deeds.
pub empty_deeds : (head m : ℕ) → deeds_of (empty_entry head) m ≡ []
unfolding deeds_of set_of look_of empty_entry
empty_deeds head zero = refl
empty_deeds head (suc c) = empty_deeds head c

-- As a commit, an entry says the same deeds.
pub committed_deeds : (i : ℕ) (e : Entry) (m : ℕ) → deeds_of (committed_entry i e) m ≡ deeds_of e m
unfolding committed_entry
committed_deeds i e m = deeds_ext m (committed_entry i e) e (λ c l. record { written = refl; sources = refl; copies = refl })

-- Entries that are the same say the same commit.
commit_same : (m : ℕ) {e f : Entry} → m ≤ 32 → SameEntry e f → commit_of m e ≡ commit_of m f
commit_same m few same = λ t. record { handler = same.head t; deeds = deeds_of_same m few same t }

-- Where the first rows of commits are the same, so are the first commits.
pub commits_kept : (m : ℕ) (words after : List ℕ) (count : ℕ) → m ≤ 32
    → ((place : ℕ) → 1 ≤ place → place ≤ count → SameEntry (entry_in after (commit_row place)) (entry_in words (commit_row place)))
    → commits_in m after count ≡ commits_in m words count
unfolding commits_in
commits_kept m words after zero few same = refl
commits_kept m words after (suc k) few same =
    ap₂ ◌∷◌ (commit_same m few (same (suc k) (omega arith) (omega arith)))
    (commits_kept m words after k few (λ place low l. same place low (omega arith)))

-- Tables that agree at a place below n agree there also where they are filled in from n on.
below_same : {A : Type 0} (n : ℕ) (rest : A) (table other : ℕ → A) (j : ℕ) → (j < n → table j ≡ other j)
    → below n rest table j ≡ below n rest other j
unfolding below
below_same n rest table other j same = by (ltb j n) (λ e. rw e (same (ltb-true j n e))) (λ e. rw e)

-- Deeds that are equal are the same.
pub same_deeds : {a b : List (Deed ℕ)} → a ≡ b → SameDeeds a b
same_deeds {a} same = subst (SameDeeds a) same deeds_refl

-- Commits that are equal are the same.
pub same_commits : {a b : List (Commit ℕ)} → a ≡ b → SameCommits a b
same_commits {a} same = subst (SameCommits a) same commits_refl

-- ── One handler changed ───────────────────────────────────────────────

-- Handler i's transaction is open or not, and has done these deeds; and these are the commits and the aborted transactions.
abbrev pub changed : History ℕ → ℕ → Bool → List (Deed ℕ) → List (Commit ℕ) → List (Abort ℕ) → History ℕ
changed h i opened deeds commits aborts =
    record { commits = commits; aborts = aborts; opened = put h.opened i opened; now = put h.now i deeds }

-- Of m cells and n handlers, some words are others with an entry for handler i, as far as the handlers and the head go.
pub record Changes (words : List ℕ) (i : ℕ) (e : Entry) (count : ℕ) (after : List ℕ) : Type 0 where
  pub cells : cells_of after ≡ cells_of words
  pub handlers : handlers_of after ≡ handlers_of words
  pub noted : commits_noted after ≡ count
  pub here : SameEntry (entry_in after (handler_row i)) e
  pub others : (j : ℕ) → (j ≡ i → ⊥) → j < handlers_of words → SameEntry (entry_in after (handler_row j)) (entry_in words (handler_row j))

module _ {words : List ℕ} (ledger : Ledger words) {i : ℕ} (seat : i < handlers_of words) {e : Entry} {count : ℕ} {after : List ℕ}
    (changes : Changes words i e count after) where
  -- What words say of each handler is as before, but for handler i, of which they say what is new.
  table_changed : {A : Type 0} (Same : A → A → Type 0) (rest : A) (said : Entry → A) (new : A) → ((a : A) → Same a a)
      → Same new (said e) → ((f g : Entry) → SameEntry f g → said f ≡ said g)
      → (j : ℕ) → Same (put (below (handlers_of words) rest (λ k. said (entry_in words (handler_row k)))) i new j)
      (below (handlers_of after) rest (λ k. said (entry_in after (handler_row k))) j)
  table_changed {A} Same rest said new itself same alike =
      put_each (λ j a. Same a (below (handlers_of after) rest now j)) (below (handlers_of words) rest before) i new
      (subst (Same new) (sym at_handler) same)
      (λ j apart. subst (Same (below (handlers_of words) rest before j)) (elsewhere j apart) (itself _))
    where
      before : ℕ → A
      before k = said (entry_in words (handler_row k))

      now : ℕ → A
      now k = said (entry_in after (handler_row k))

      counted : (j : ℕ) → below (handlers_of after) rest now j ≡ below (handlers_of words) rest now j
      counted j = ap (λ k. below k rest now j) changes.handlers

      at_handler : below (handlers_of after) rest now i ≡ said e
      at_handler = counted i ∙ below_inside (handlers_of words) rest now i seat ∙ alike _ _ changes.here

      elsewhere : (j : ℕ) → (j ≡ i → ⊥) → below (handlers_of words) rest before j ≡ below (handlers_of after) rest now j
      elsewhere j apart =
          below_same (handlers_of words) rest before now j (λ l. sym (alike _ _ (changes.others j apart l))) ∙ sym (counted j)

  -- The words say the history with handler i changed, and with the commits that they now note.
  pub history_changed : {opened : Bool} {deeds : List (Deed ℕ)} {commits : List (Commit ℕ)} (aborts : List (Abort ℕ))
      → is_open e ≡ opened → SameDeeds deeds (deeds_of e (cells_of words)) → SameCommits commits (commits_in (cells_of words) after count)
      → SameHistory (changed (history_in words) i opened deeds commits aborts) (history_in after)
  unfolding history_in
  history_changed {opened} {deeds} {commits} aborts is_opened same noted = record {
    commits = subst₂ (λ m k. SameCommits commits (commits_in m after k)) (sym changes.cells) (sym changes.noted) noted;
    opened = table_changed ◌≡◌ false is_open opened (λ _. refl) (sym is_opened) (λ f g alike. ap (λ (head : ℕ). not (eqb head 0)) alike.head);
    now =
        λ j. subst (λ m. SameDeeds (put (history_in words).now i deeds j)
        (below (handlers_of after) [] (λ k. deeds_of (entry_in after (handler_row k)) m) j))
        (sym changes.cells)
        (table_changed SameDeeds [] (λ f. deeds_of f (cells_of words)) deeds (λ _. deeds_refl) same
        (λ f g. deeds_of_same (cells_of words) ledger.range.cells) j);
  }

-- ── The history that words say ────────────────────────────────────────

-- The words are a ledger of m cells and n handlers, and no answer can tell the history that they say from this one.
pub record Says (m n : ℕ) (words : List ℕ) (h : History ℕ) : Type 0 where
  pub ledger : Ledger words
  pub cells : cells_of words ≡ m
  pub handlers : handlers_of words ≡ n
  pub same : SameHistory h (history_in words)
