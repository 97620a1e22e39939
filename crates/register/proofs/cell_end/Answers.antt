-- `register::cell_end` meets its promise: the words behind the cell's place say its value and its numbers, and its own number what it shows.
use Prim.Native.Nat.{◌+◌, ◌<◌, ◌≤◌}
use mathlib.Core.Path.{◌≡◌, sym, ◌∙◌}
use mathlib.Core.Bool.{true}
use native.Mathlib.Omega.{arith}
use lib.ListN.{length}
use Rattle.layout.specs.Places.{cells_of, handlers_of, cell_start, cell_long}
use Rattle.layout.specs.WellFormed.{is_well_formed}
use Rattle.layout.proofs.Tested.{tested}
use Rattle.layout.proofs.Kept.{well_long}
use Rattle.layout.proofs.Places.{cell_fits, cell_start_small}
use Rattle.register.proofs.Ends.{end_malformed, end_beyond, end_shown}
use Rattle.register.proofs.cell_end.Goals as goal
use Rattle.register.proofs.cell_end.Goals.{Else-not-well_formed, Else-words-c}

-- Past the first test the words are well formed.
formed : (c : Else-not-well_formed) → is_well_formed c.args.words.now ≡ true
formed c = sym c.well_formed-2.ensures ∙ c.if-not-well_formed.false

-- So there are more than two of them.
long : (c : Else-not-well_formed) → 2 ≤ length c.args.words.now
long c = omega (arith, well_long ((tested _).0 (formed c)))

-- Past the second the register has the cell,
inside : (c : Else-words-c) → let args = c.args in args.c < cells_of args.words.now
inside c = omega arith

-- its words begin near the front,
small : (c : Else-words-c) → let args = c.args in
    (cell_start (cells_of args.words.now) args.c ≤ 1056) × (cells_of args.words.now ≤ 32)
small c =
    let few = ((tested _).0 (sym c.well_formed-2.ensures ∙ c.if-not-well_formed.false)).range.cells in
    (cell_start_small _ _ few (omega (arith, few, inside c)), few)

-- and end before the words do.
fits : (c : Else-words-c) → let args = c.args in
    2 + cell_start (cells_of args.words.now) args.c + cell_long (cells_of args.words.now) ≤ length args.words.now
fits c =
    let words = c.args.words.now in
    omega (
      arith,
      cell_fits (cells_of words) (handlers_of words) _ (inside c),
      well_long
          ((tested _).0 (sym c.well_formed-2.ensures ∙ c.if-not-well_formed.false)),
    )

pub returns-then-not-well_formed : goal.returns-then-not-well_formed
returns-then-not-well_formed c = end_malformed _ _ (sym c.well_formed-2.ensures ∙ c.if-not-well_formed.true)

pub returns-then-words-c : goal.returns-then-words-c
returns-then-words-c c = end_beyond _ _ (formed (goal.at.returns-then-words-c c).Else-not-well_formed) (omega arith)

pub cell_at-start-requires : goal.cell_at-start-requires
cell_at-start-requires c = omega (arith, small (goal.at.cell_at-start-requires c).Else-words-c, inside (goal.at.cell_at-start-requires c).Else-words-c)

pub returns : goal.returns
returns c =
    end_shown _ _ (formed (goal.at.returns c).Else-not-well_formed) (inside (goal.at.returns c).Else-words-c) c.cell_at-start.ensures.starts
    (omega arith) c.version_shows-content.ensures.replied

pub bounds-words-0 : goal.bounds-words-0
bounds-words-0 c = omega (arith, long (goal.at.bounds-words-0 c).Else-not-well_formed)

pub offset_bounds-words-start : goal.offset_bounds-words-start
offset_bounds-words-start c =
    omega (arith, small (goal.at.offset_bounds-words-start c).Else-words-c, inside (goal.at.offset_bounds-words-start c).Else-words-c)

pub bounds-words-start : goal.bounds-words-start
bounds-words-start c = omega (arith, fits (goal.at.bounds-words-start c).Else-words-c, inside (goal.at.bounds-words-start c).Else-words-c)

pub offset_bounds-words-start-2 : goal.offset_bounds-words-start-2
offset_bounds-words-start-2 c = omega (arith, small (goal.at.offset_bounds-words-start-2 c).Else-words-c)

pub bounds-words-start-2 : goal.bounds-words-start-2
bounds-words-start-2 c = omega (arith, fits (goal.at.bounds-words-start-2 c).Else-words-c)
