-- A step that no check refuses: taken by its kind, and passed within the limit.
use Rattle.std.proofs.Common.{ℕ, ◌≡◌, refl, ap, true, false, List}
use Rattle.rules.specs.steps.Codes.{Step, begin, give_up, write}
use Rattle.rules.specs.steps.Replies.{gave_up, ok, aborted, Outcome, too_many_commits, Reply}
use Rattle.rules.specs.demand.Demand.{reported_to}
use Rattle.rules.specs.demand.Judge.{answer}
use Rattle.ledger.specs.Entries.{commits_noted, entry_in, with_entry, handler_row}
use Rattle.ledger.specs.Noting.{empty_entry, written_entry, note_outcome, note_words}
use Rattle.ledger.specs.Promises.{is_commit, limited}
use Rattle.ledger.proofs.Steps.{room_for}
use Rattle.judge.specs.Taking.{answer_of, HasRoom, TakesNoted, Passes}
use Rattle.judge.proofs.Answers.{in_row}
use Rattle.judge.proofs.Tests.{too_many}

-- ── Taken ─────────────────────────────────────────────────────────────

-- A begin is taken by emptying the handler's row,
pub takes_begin : (words : List ℕ) (i v : ℕ) {row : ℕ} {after : List ℕ} → row ≡ handler_row i → after ≡ with_entry words row (empty_entry 1)
    → TakesNoted words i begin v ok after
unfolding answer note_outcome
takes_begin words i v there left = record { replied = refl; left = in_row words i (λ _. empty_entry 1) there left }

-- so is a give up,
pub takes_give_up : (words : List ℕ) (i v : ℕ) {row : ℕ} {after : List ℕ} → row ≡ handler_row i → after ≡ with_entry words row (empty_entry 0)
    → TakesNoted words i give_up v (aborted gave_up) after
unfolding answer note_outcome
takes_give_up words i v there left = record { replied = refl; left = in_row words i (λ _. empty_entry 0) there left }

-- and a write by noting it there.
pub takes_write : (words : List ℕ) (i x v : ℕ) {row : ℕ} {after : List ℕ} → row ≡ handler_row i
    → after ≡ with_entry words row (written_entry (entry_in words row) x v) → TakesNoted words i (write x) v ok after
unfolding answer note_outcome
takes_write words i x v there left = record { replied = refl; left = in_row words i (λ e. written_entry e x v) there left }

-- ── Passed ────────────────────────────────────────────────────────────

module _ (words : List ℕ) (i : ℕ) (s : Step) where
  -- What is not one commit too many has room.
  pub has_room : too_many words i s ≡ false → HasRoom words i s
  has_room = room_for (commits_noted words) (is_commit (answer_of words i s))

  -- One commit too many is refused, and nothing is noted,
  pub pass_stops : {code v : ℕ} → too_many words i s ≡ true → Passes words i code s v (Reply.refused too_many_commits) words
  unfolding limited note_words
  pass_stops full = record { replied = rw full; left = rw full }

  -- and everything else is reported.
  pub pass_takes : {code v : ℕ} {outcome : Outcome ℕ} {after : List ℕ} → too_many words i s ≡ false → TakesNoted words i s v outcome after
      → Passes words i code s v (reported_to i code outcome) after
  unfolding limited note_words
  pass_takes {code} passes takes = record { replied = rw passes (ap (reported_to i code) takes.replied); left = rw passes takes.left }
