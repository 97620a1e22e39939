-- `sheets::count_places` meets its contract: the run is underway at every place, and counted whole at the end.
use Prim.Native.Nat.{ℕ}
use mathlib.Core.Path.{◌≡◌, refl, ◌∙◌}
use native.Mathlib.Omega.{arith}
use lib.ListN.{length}
use borrow.Author.Rules.{rules}
use Rattle.sheets.proofs.Underway.{underway_start, underway_room, underway_more, underway_end}
use Rattle.sheets.proofs.count_places.Goals as goal

-- What is as long as what was as long as at first.
still_long : (after now before : ℕ) → after ≡ now → now ≡ before → after ≡ before
still_long after now before same kept = same ∙ kept

pub loop-place-init : goal.loop-place-init
loop-place-init c = (omega arith, refl, rw c.at_start-cursors.ensures.replied (underway_start c.requires.0))

pub count_place-requires : goal.count_place-requires
count_place-requires c = let loop = c.loop-place in underway_room (omega arith) loop.invariant.2

pub loop-place-preserved : goal.loop-place-preserved
loop-place-preserved c = let loop = c.loop-place in
    let played = c.play_place-placed.ensures in (
      omega arith,
      still_long _ (length loop.words) _ (search rules) loop.invariant.1,
      underway_more (omega arith) loop.invariant.2 played (c.count_place.ensures.adds loop.place),
    )

pub shape_of-sheet : goal.shape_of-sheet
shape_of-sheet c = c.loop-place.invariant.2.size

pub shape_of-words : goal.shape_of-words
shape_of-words c = c.loop-place.invariant.1

pub returns : goal.returns
returns c = underway_end (omega arith) c.loop-place.invariant.2
