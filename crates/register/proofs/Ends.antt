-- What is shown of a cell at the end, by the words.
use Prim.Native.Nat.{ℕ, ◌+◌, ◌≤◌, ◌<◌}
use mathlib.Core.Path.{◌≡◌, refl, sym, ap, ap₂, ◌∙◌}
use mathlib.Core.Bool.{true, false}
use mathlib.Core.List.{List}
use mathlib.Core.Option.{none, some}
use native.Mathlib.Omega.{arith}
use lib.ListN.{get_or}
use lib.Seq.{get_or-drop}
use borrow.Author.Tests.{lt-ltb, le-ltb}
use Rattle.rules.specs.steps.Replies.{Content}
use Rattle.rules.specs.steps.Figure.{version_shows}
use Rattle.layout.specs.Places.{cells_of, handlers_of, body_of, cell_start}
use Rattle.layout.specs.View.{viewed}
use Rattle.layout.specs.WellFormed.{is_well_formed}
use Rattle.steps.proofs.Said.{value_said, number_said}
use Rattle.register.specs.Ending.{end_of, EndPromise}

module _ (words : List ℕ) (c : ℕ) where
  -- Words that are no register show nothing.
  pub end_malformed : is_well_formed words ≡ false → EndPromise words c none
  unfolding end_of
  end_malformed malformed = record { replied = rw malformed; left = refl }

  module _ (formed : is_well_formed words ≡ true) where
    -- Nor does a cell that the register has not.
    pub end_beyond : cells_of words ≤ c → EndPromise words c none
    unfolding end_of
    end_beyond beyond = record { replied = rw (formed, le-ltb c (cells_of words) beyond); left = refl }

    -- A cell of the register shows what its first word is as a version of its own number, and that number.
    pub end_shown : {place start : ℕ} {content : Content ℕ} → c < cells_of words → place ≡ cell_start (cells_of words) c → start ≡ 2 + place
        → content ≡ version_shows (get_or words (start + 1 + c) 0) (get_or words (start + 0) 0)
        → EndPromise words c (some (record { content = content; number = get_or words (start + 1 + c) 0 }))
    unfolding end_of
    end_shown {place} {start} {content} inside placed starts shows = record {
      replied =
          rw (formed, lt-ltb c (cells_of words) inside)
          (λ i. some (record { content = (shows ∙ ap₂ version_shows number value) i; number = number i }));
      left = refl;
    }
      where
        first : ℕ
        first = cell_start (cells_of words) c

        value : get_or words (start + 0) 0 ≡ ((viewed words).cells c).value
        value =
            ap (λ place. get_or words place 0) (let same : start + 0 ≡ 2 + (first + 0) = omega (arith, starts, placed) in same)
            ∙ sym (get_or-drop 2 words (first + 0) 0) ∙ value_said (handlers_of words) (body_of words) inside refl

        number : get_or words (start + 1 + c) 0 ≡ ((viewed words).cells c).numbers c
        number =
            ap (λ place. get_or words place 0) (let same : start + 1 + c ≡ 2 + (first + 1 + c) = omega (arith, starts, placed) in same)
            ∙ sym (get_or-drop 2 words (first + 1 + c) 0) ∙ number_said (handlers_of words) (body_of words) inside refl c inside
