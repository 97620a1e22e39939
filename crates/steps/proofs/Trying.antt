-- A try by the rules, as each of its ways leaves the register; and the cells that a try finds in the words are those that the rules find.
use Prim.Native.Nat.{ℕ, ◌+◌}
use mathlib.Core.Path.{◌≡◌}
use mathlib.Core.List.{List}
use mathlib.Core.Option.{none, some}
use lib.ListN.{get_or}
use Rattle.rules.specs.steps.Codes.{try}
use Rattle.rules.specs.steps.Replies.{overtaken, spent, committed}
use Rattle.rules.specs.steps.Tables.{lowest}
use Rattle.rules.specs.steps.Register.{Register}
use Rattle.rules.specs.steps.Checks.{first_hit}
use Rattle.rules.specs.steps.Figure.{overtaken_cell, spent_cell, committing, ended_with, unless_aborted, try_checks, trying, step}
use Rattle.rules.proofs.steps.Searches.{lowest_same}
use Rattle.layout.specs.Places.{handler_start, transaction_from}
use Rattle.layout.specs.View.{word_setting, view}
use Rattle.searches.specs.Searches.{differs, filled}
use Rattle.steps.specs.Takes.{Seated}
use Rattle.steps.proofs.Said.{read_said, written_said, transaction_said, own_said}

-- ── The ways of a try ─────────────────────────────────────────────────

module _ (m : ℕ) (r : Register ℕ) (i v : ℕ) where
  -- A try whose read of cell z, the lowest such, is overtaken.
  pub try_overtaken : {z : ℕ} → overtaken_cell (word_setting m) r (r.handlers i) ≡ some z
      → step (word_setting m) r i try v ≡ ended_with (word_setting m) (overtaken z) r i (r.handlers i)
  unfolding step trying try_checks first_hit unless_aborted
  try_overtaken old = rw old

  -- A try whose reads stand and that wrote cell z, the lowest such, whose number is spent.
  pub try_spent : {z : ℕ} → overtaken_cell (word_setting m) r (r.handlers i) ≡ none → spent_cell (word_setting m) r (r.handlers i) ≡ some z
      → step (word_setting m) r i try v ≡ ended_with (word_setting m) (spent z) r i (r.handlers i)
  unfolding step trying try_checks first_hit unless_aborted
  try_spent current full = rw (current, full)

  -- A try that goes through.
  pub try_commits : overtaken_cell (word_setting m) r (r.handlers i) ≡ none → spent_cell (word_setting m) r (r.handlers i) ≡ none
      → step (word_setting m) r i try v ≡ record { outcome = committed; after = committing (word_setting m) r i (r.handlers i) }
  unfolding step trying try_checks first_hit unless_aborted
  try_commits current room = rw (current, room)

-- ── What the words are asked ──────────────────────────────────────────

-- The handler's block begins at a place.
module _ {m n i : ℕ} {words : List ℕ} (seated : Seated m n words i) {start : ℕ} (starts : start ≡ handler_start m i) where
  -- The register that the words say.
  abbrev r : Register ℕ
  r = view m n words

  -- The overtaken cell that is found in the words is the one that the rules find,
  pub overtaken_told : {place : ℕ} → place ≡ transaction_from m
      → lowest m (differs m (get_or words (start + 1) 0) words (start + place)) ≡ overtaken_cell (word_setting m) r (r.handlers i)
  unfolding overtaken_cell
  overtaken_told placed = lowest_same m _ _ (λ y l. rw (read_said seated starts y l, transaction_said seated starts y l placed, own_said n words l))

  -- and so is the spent one.
  pub spent_told : lowest m (filled m (get_or words (start + 2) 0) words) ≡ spent_cell (word_setting m) r (r.handlers i)
  unfolding spent_cell
  spent_told = lowest_same m _ _ (λ y l. rw (written_said seated starts y l, own_said n words l))
