-- The first read over a whole body: the cell that is found in the words is the one that the rules find, and with the handler put to rest,
-- or with the cell joined to it, the body holds the rules' register.
use Prim.Native.Nat.{ℕ, ◌+◌, ◌-◌}
use mathlib.Core.Path.{◌≡◌, ap, ap₂, ◌∙◌}
use mathlib.Core.List.{List}
use mathlib.Core.Option.{none, some}
use lib.ListN.{get_or, take, drop}
use borrow.Rule.Slice.PartMut.{put_mid}
use Rattle.rules.specs.steps.Codes.{read}
use Rattle.rules.specs.steps.Replies.{Content, torn, shows, aborted}
use Rattle.rules.specs.steps.Tables.{lowest}
use Rattle.rules.specs.steps.Register.{Cell, Handler, Register, idle}
use Rattle.rules.specs.steps.Figure.{version_shows, torn_cell}
use Rattle.rules.proofs.steps.Searches.{lowest_same}
use Rattle.layout.specs.Places.{cell_start, handler_start, handler_long, transaction_from}
use Rattle.layout.specs.View.{word_setting, view_handler, view, pour_handler}
use Rattle.layout.proofs.ViewPour.{view_confined}
use Rattle.words.specs.Rows.{RowOf}
use Rattle.words.proofs.Changes.{row_is}
use Rattle.searches.specs.Searches.{lower}
use Rattle.block.specs.Blocks.{row_table, joined_with}
use Rattle.places.specs.Spans.{Spans}
use Rattle.steps.specs.Takes.{Seated, Unread, Takes}
use Rattle.steps.proofs.Lent.{lent_takes, rest_takes}
use Rattle.steps.proofs.Said.{read_said, transaction_said, number_said, value_said}
use Rattle.steps.proofs.Reading.{first_read_torn, first_read_taken}

-- The first read of cell x, whose words begin at a place, and whose handler's block is lent from one to another.
module _ {m n i x : ℕ} {words : List ℕ} (first : Unread m n words i x) {start from to : ℕ} (starts : start ≡ cell_start m x)
    (span : Spans (handler_start m i) (handler_long m) from to) where
  -- The handler is there.
  seated : Seated m n words i
  seated = first.ready.seated

  -- The register that the words say.
  abbrev r : Register ℕ
  r = view m n words

  -- The handler.
  abbrev h : Handler ℕ
  h = r.handlers i

  -- The cell.
  abbrev c : Cell ℕ
  c = r.cells x

  -- The cell that is found in the words is the one that the rules find.
  pub torn_told : {place : ℕ} → place ≡ transaction_from m
      → lowest m (lower (get_or words (from + 1) 0) words (from + place) (start + 1)) ≡ torn_cell (word_setting m) h c
  unfolding torn_cell
  torn_told placed = lowest_same m _ _ (λ y l. rw (
    read_said seated span.starts y l,
    transaction_said seated span.starts y l placed,
    number_said n words first.ready.cell starts y l,
  ))

  -- Abort 1 puts the handler to rest.
  pub torn_takes : {y : ℕ} {last : List ℕ} → torn_cell (word_setting m) h c ≡ some y
      → last ≡ pour_handler m (idle (word_setting m) (view_handler m (take (to - from) (drop from words))).numbers)
      → Takes m n words i (read x) 0 (aborted (torn y)) (put_mid from (to - from) words last)
  torn_takes old = rest_takes seated span (first_read_torn m r i x 0 first.unread first.unwritten old)

  -- The row that was copied out of the cell's words stands for its numbers.
  module _ {row : List ℕ} (copied : RowOf m (λ y. get_or words (start + 1 + y) 0) row) where
    numbers : row_table row ≡ c.numbers
    numbers = row_is {row = row} (record {
      size = copied.size;
      inside = λ y l. copied.inside y l ∙ number_said n words first.ready.cell starts y l;
      beyond = copied.beyond;
    }) ((view_confined m n words).cell x)

    -- With the cell joined at its own number, the body holds the rules' register; what its version shows is replied.
    pub read_takes : {content : Content ℕ} {last : List ℕ} → torn_cell (word_setting m) h c ≡ none
        → content ≡ version_shows (get_or words (start + 1 + x) 0) (get_or words (start + 0) 0)
        → last ≡ pour_handler m (joined_with (view_handler m (take (to - from) (drop from words))) x (get_or words (start + 0) 0) (row_table row))
        → Takes m n words i (read x) 0 (shows content) (put_mid from (to - from) words last)
    read_takes whole same joins =
        lent_takes seated span (λ g. joined_with g x c.value c.numbers)
        (first_read_taken m r i x 0 first.unread first.unwritten whole ((view_confined m n words).handler i).read_set)
        (ap shows (same ∙ ap₂ version_shows (number_said n words first.ready.cell starts x first.ready.cell) said))
        (joins ∙ ap₂ (λ v table. pour_handler m (joined_with (view_handler m (take (to - from) (drop from words))) x v table)) said numbers)
      where
        said : get_or words (start + 0) 0 ≡ c.value
        said = value_said n words first.ready.cell starts
