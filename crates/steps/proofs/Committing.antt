-- A commit over a whole body: with the numbers stamped, the written cells stored and the block settled, the words hold the rules'
-- register. Between the stores they hold the register whose transaction has the stamped numbers, and then that one with the cells stored.
use Prim.Native.Nat.{ℕ, ◌+◌, ◌-◌, ◌≤◌, ◌<◌}
use mathlib.Core.Path.{◌≡◌, sym, ap, ap₂, ◌∙◌}
use mathlib.Core.List.{List}
use mathlib.Core.Option.{none}
use native.Mathlib.Omega.{arith}
use lib.Dec.{ltb}
use lib.ListN.{length, get_or, take, drop}
use borrow.Author.Tests.{ltb-true, ltb-false}
use borrow.Rule.Slice.PartMut.{put_mid}
use Rattle.rules.specs.steps.Codes.{try}
use Rattle.rules.specs.steps.Replies.{committed}
use Rattle.rules.specs.steps.Register.{Handler, Register, with_handler, idle}
use Rattle.rules.specs.steps.Figure.{stamped, overtaken_cell, spent_cell}
use Rattle.rules.proofs.steps.Tables.{by, put_here}
use Rattle.rules.proofs.steps.Confined.{ConfinedHandler, stamped_confined}
use Rattle.layout.specs.Bits.{has_bit}
use Rattle.layout.specs.Places.{body_long, handler_start, handler_long, transaction_from, copies_from}
use Rattle.layout.specs.View.{word_setting, view_handler, view, pour_handler, holding, Holds}
use Rattle.layout.proofs.Blocks.{view_handler_is, poured_handler}
use Rattle.layout.proofs.Holds.{holds_is}
use Rattle.layout.proofs.ViewPour.{view_confined}
use Rattle.layout.proofs.Kept.{view_bounded}
use Rattle.layout.proofs.OneRow.{with_transaction, row_changed}
use Rattle.words.specs.Rows.{Changed}
use Rattle.words.proofs.Changes.{changed_at, changed_as}
use Rattle.stores.specs.Stores.{Behind, Raisable, stamped_in, stored_where, Stores}
use Rattle.stores.proofs.Commits.{stores_same, commit_holds}
use Rattle.places.specs.Spans.{Spans}
use Rattle.places.proofs.Lent.{lent_part, lent_back}
use Rattle.steps.specs.Takes.{Seated, Takes, Commits}
use Rattle.steps.proofs.Lent.{seated_holds, block_lies, cells_lie}
use Rattle.steps.proofs.Said.{written_said, written_among, transaction_said, copy_said, own_said}
use Rattle.steps.proofs.Trying.{try_commits}

-- Each cell's own number can be raised.
pub raisable : {m n i : ℕ} {words : List ℕ} → Seated m n words i → Raisable m words
raisable {m} {n} {i} {words} seated c l = rw (own_said n words l) ((view_bounded seated.formed.good).cells c l c l)

-- A row of the handler's block lies behind the cells, and the written set is one of some of them.
pub row_behind : {m n i from to place offset : ℕ} {words others : List ℕ} → Seated m n words i → Spans (handler_start m i) (handler_long m) from to
    → place ≡ offset → offset + m ≤ handler_long m → length others ≡ length words → Behind m (get_or words (from + 2) 0) (from + place) others
row_behind seated span placed fits size = record {
  few = seated.formed.few;
  below = (written_among seated span.starts).below;
  cells = omega (arith, cells_lie seated span);
  fits = omega (arith, block_lies seated span);
}

-- The commit of handler i, whose block is lent from one place to another, in which the transaction's numbers and the copies have theirs.
module _ {m n i : ℕ} {words : List ℕ} (seated : Seated m n words i) {from to held copies : ℕ}
    (span : Spans (handler_start m i) (handler_long m) from to) (holding_at : held ≡ transaction_from m) (copies_at : copies ≡ copies_from m) where
  -- The register that the words say.
  abbrev r : Register ℕ
  r = view m n words

  -- The handler.
  abbrev h : Handler ℕ
  h = r.handlers i

  -- The word of its written set.
  abbrev written : ℕ
  written = get_or words (from + 2) 0

  -- The handler with the stamped numbers.
  abbrev raised : Handler ℕ
  raised = with_transaction h (stamped r h)

  -- It holds nothing beyond m.
  confined : ConfinedHandler (word_setting m) raised
  confined =
      let own = (view_confined m n words).handler i in
      record {
        read_set = own.read_set;
        written_set = own.written_set;
        numbers = own.numbers;
        transaction = stamped_confined (word_setting m) r h own;
        copies = own.copies;
      }

  module _ {after : List ℕ} (stamps : Changed (from + held) m (stamped_in m written words (from + held)) words after) where
    -- The row of the transaction has the rules' numbers.
    row : Changed (handler_start m i + transaction_from m) m (stamped r h) words after
    unfolding stamped
    row = changed_as _ (changed_at (ap₂ ◌+◌ span.starts holding_at) stamps)
        (λ y l. rw (written_said seated span.starts y l, transaction_said seated span.starts y l holding_at, own_said n words l))

    -- The words hold the register with that handler.
    stamped_holds : Holds m n (with_handler r i raised) (drop (body_long m n) words) after
    stamped_holds = row_changed (seated_holds seated) i seated.handler row.untouched row.inside

    -- The copies are as they were.
    copied : (c : ℕ) → c < m → get_or after (from + copies + c) 0 ≡ h.copies c
    copied c l = stamps.untouched.above (from + copies + c) (omega (arith, holding_at, copies_at)) ∙ copy_said seated span.starts c l copies_at

    -- The row's numbers, where they lie.
    numbered : (y : ℕ) → y < m → get_or after (from + held + y) 0 ≡ stamped r h y
    numbered y l = ap (λ place. get_or after (place + y) 0) (ap₂ ◌+◌ span.starts holding_at) ∙ row.inside y l

    -- The written set's word says the written set, within m and beyond.
    written_is : (c : ℕ) → has_bit written c ≡ h.written_set c
    written_is c = by (ltb c m)
        (λ e. written_said seated span.starts c (ltb-true c m e))
        (λ e. (written_among seated span.starts).below c (ltb-false c m e) ∙ sym (((view_confined m n words).handler i).written_set c (ltb-false c m e)))

    module _ {later : List ℕ}
        (stores : Stores m (has_bit written) (λ c. get_or after (from + copies + c) 0) (λ y. get_or after (from + held + y) 0) after later) where
      -- What is stored is the copies and the stamped numbers.
      storing : Stores m (has_bit written) h.copies (stamped r h) after later
      storing = stores_same h.copies (stamped r h) stores copied numbered

      -- What is lent says the handler with the stamped numbers.
      says : view_handler m (take (to - from) (drop from later)) ≡ raised
      unfolding stored_where with_handler
      says =
          ap (view_handler m) (lent_part span later ∙ (storing.holds n _ _ stamped_holds).handlers i seated.handler
          ∙ ap (pour_handler m) (put_here r.handlers i raised))
          ∙ view_handler_is m raised _ confined (poured_handler m raised)

      -- With the block settled, what is left is the rules' register after a commit.
      pub commits : {last : List ℕ} → last ≡ pour_handler m (idle (word_setting m) (view_handler m (take (to - from) (drop from later))).transaction)
          → Commits m n words i (put_mid from (to - from) later last)
      commits settles =
          lent_back span later (settles ∙ ap (λ g. pour_handler m (idle (word_setting m) g.transaction)) says)
          ∙ holds_is (commit_holds m i r raised seated.handler written_is stamped_holds storing)

-- A try that goes through is taken by a commit.
pub commit_takes : {m n i : ℕ} {words after : List ℕ} → let r = view m n words in
    overtaken_cell (word_setting m) r (r.handlers i) ≡ none → spent_cell (word_setting m) r (r.handlers i) ≡ none
    → Commits m n words i after → Takes m n words i try 0 committed after
commit_takes {m} {n} {i} {words} current room left =
    let goes = try_commits m (view m n words) i 0 current room in
    record {
      replied = ap (λ q. q.outcome) (sym goes);
      left = left ∙ ap (λ q. holding words m n q.after) (sym goes);
    }
