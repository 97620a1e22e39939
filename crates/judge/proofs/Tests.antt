-- What the judge reads off its words before a step.
use Rattle.std.proofs.Common.{ℕ, ◌≤◌, ◌<◌, ◌≡◌, refl, sym, ap, ◌∙◌, Bool, true, false, not, ◌&&◌, ◌||◌, List, [], ◌∷◌, Option, None, Some, length, eqb}
use Rattle.std.proofs.Common.{leb, le-leb}
use mathlib.Core.Bool.{and-false}
use Rattle.std.specs.Bool.{OnTrue}
use Rattle.std.specs.Option.{is_some}
use Rattle.checks.specs.declared.Step as Checks
use Rattle.checks.specs.declared.Step.TheVariants as Variants
use Rattle.checks.specs.Meaning.{step_is}
use Rattle.words.specs.Sets.{found_is}
use borrow.Author.Tests.{lt-leb}
use Rattle.rules.specs.steps.Tables.{lowest}
use Rattle.rules.specs.steps.Codes.{Step, begin, give_up, read, write}
use Rattle.rules.specs.steps.Replies.{overtaken, committed}
use Rattle.rules.specs.steps.Checks.{◌naming◌, in_range, first_hit}
use Rattle.rules.specs.steps.Register.{Setting}
use Rattle.rules.specs.history.History.{Deed, Commit, has_read, has_written, writer}
use Rattle.rules.specs.history.Past.{tears_at}
use Rattle.rules.specs.demand.Judge.{stale, or_aborted, answer_read, answer}
use Rattle.rules.proofs.steps.Tables.{by, found}
use Rattle.layout.specs.Places.{cells_of, handlers_of}
use Rattle.layout.specs.View.{word_setting}
use Rattle.layout.proofs.Rows.{below_beyond}
use Rattle.ledger.specs.Entries.{ledger_long, most_commits, commits_noted, Ledger, is_ledger, handler_row, entry_in}
use Rattle.ledger.specs.Histories.{is_open, deeds_of, commits_in, history_in}
use Rattle.ledger.specs.Promises.{is_commit}
use Rattle.ledger.proofs.Faithful.{opened_is}
use Rattle.ledger.proofs.Tested.{tested}
use Rattle.judge.specs.Taking.{JudgeReady, answer_of}
use Rattle.judge.proofs.Answers.{try_asked, stale_told}

-- ── A ledger ──────────────────────────────────────────────────────────

-- Words that are too few are no ledger,
pub ledger_short : (words : List ℕ) → length words < ledger_long → false ≡ is_ledger words
unfolding is_ledger
ledger_short words short = rw (lt-leb ledger_long (length words) short)

module _ (words : List ℕ) (long : ledger_long ≤ length words) where
  -- nor are words with m or n out of range,
  pub ledger_out : in_range (cells_of words) (handlers_of words) ≡ false → false ≡ is_ledger words
  unfolding is_ledger
  ledger_out out = rw (le-leb ledger_long (length words) long, out)

  -- and else the number of commits decides.
  pub ledger_counted : in_range (cells_of words) (handlers_of words) ≡ true → leb (commits_noted words) most_commits ≡ is_ledger words
  unfolding is_ledger
  ledger_counted ranged = rw (le-leb ledger_long (length words) long, ranged)

-- Words of which that is tested are one.
pub ledger_kept : (b : Bool) (words : List ℕ) → b ≡ is_ledger words → OnTrue b (Ledger words)
ledger_kept true words e = (tested words).0 (sym e)
ledger_kept false words e = tt

-- All of it.
pub ruleset ledger_tests = (ledger_short, ledger_out, ledger_counted, ledger_kept)

-- ── An open handler ───────────────────────────────────────────────────

-- Beyond the handlers none is open,
pub beyond_idle : (words : List ℕ) (handler : ℕ) → handlers_of words ≤ handler → false ≡ (history_in words).opened handler
unfolding history_in
beyond_idle words handler outside =
    sym (below_beyond (handlers_of words) false (λ i. is_open (entry_in words (handler_row i))) handler outside)

-- and of each the head of its row says it.
pub phase_told : (words : List ℕ) (handler row head : ℕ) → row ≡ handler_row handler → head ≡ (entry_in words row).head → Ledger words
    → handler < handlers_of words → not (eqb head 0) ≡ (history_in words).opened handler
phase_told words handler row head there told ledger seat =
    ap (λ (word : ℕ). not (eqb word 0)) (told ∙ ap (λ (k : ℕ). (entry_in words k).head) there) ∙ sym (opened_is ledger seat)

-- ── One commit too many ───────────────────────────────────────────────

-- No read commits.
read_no_commit : (S : Setting ℕ) (commits : List (Commit ℕ)) (deeds : List (Deed ℕ)) (x : ℕ)
    → is_commit (answer_read S commits deeds x) ≡ false
unfolding answer_read first_hit or_aborted
read_no_commit S commits deeds x = by (has_read deeds x || has_written deeds x) (λ e. rw e)
    (λ e. rw e (found (tears_at S.cell_count commits deeds (writer commits x)) (λ y t. rw t) (λ t. rw t)))

module _ (words : List ℕ) (i : ℕ) where
  -- The step would be one commit more than can be noted.
  abbrev pub too_many : Step → Bool
  too_many s = leb most_commits (commits_noted words) && is_commit (answer_of words i s)

  -- With room no step is,
  pub room_left : commits_noted words < most_commits → (s : Step) → false ≡ too_many s
  room_left room s = rw (lt-leb most_commits (commits_noted words) room)

  -- nor is one that does not commit,
  passes : (s : Step) → is_commit (answer_of words i s) ≡ false → false ≡ too_many s
  passes s e = rw (e, and-false (leb most_commits (commits_noted words)))

  -- as a begin,
  pub begin_passes : false ≡ too_many begin
  unfolding answer
  begin_passes = passes begin refl

  -- a give up,
  pub give_up_passes : false ≡ too_many give_up
  unfolding answer
  give_up_passes = passes give_up refl

  -- a write
  pub write_passes : (x : ℕ) → false ≡ too_many (write x)
  unfolding answer
  write_passes x = passes (write x) refl

  -- and a read:
  pub read_passes : (x : ℕ) → false ≡ too_many (read x)
  unfolding answer
  read_passes x = passes (read x) (read_no_commit (word_setting (cells_of words)) (history_in words).commits ((history_in words).now i) x)

  -- all but a try;
  pub other_passes : (step : Checks.Step) → (step ≡ Variants.Try → ⊥) → false ≡ too_many (step_is step)
  other_passes Variants.Begin other = begin_passes
  other_passes Variants.Try other = absurd (other refl)
  other_passes Variants.GiveUp other = give_up_passes
  other_passes (Variants.Read x) other = read_passes x
  other_passes (Variants.Write x) other = write_passes x

  -- without room a try is, unless a read is stale.
  pub try_too_many : {m : ℕ} (step : Checks.Step) (told : Option ℕ) (row : ℕ) → JudgeReady words m i (step_is step) → step ≡ Variants.Try
      → most_commits ≤ commits_noted words → row ≡ handler_row i
      → found_is told ≡ lowest m (stale (commits_in m words (commits_noted words)) (deeds_of (entry_in words row) m))
      → too_many (step_is step) ≡ not (is_some told)
  try_too_many step told row ready tried full there asked =
      rw (tried, try_asked ready.ledger ready.handler, stale_told ready there asked, le-leb most_commits (commits_noted words) full) (commits_unless told)
    where
      commits_unless : (told : Option ℕ) → is_commit (or_aborted (first_hit ((overtaken naming (found_is told)) ∷ [])) committed) ≡ not (is_some told)
      commits_unless (Some z) = unfold or_aborted first_hit in refl
      commits_unless None = unfold or_aborted first_hit in refl
