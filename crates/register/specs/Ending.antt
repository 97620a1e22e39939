-- What is shown of a cell at the end of a run: what it holds, and its own number.
use Rattle.std.specs.Prelude.{ℕ, ◌&&◌, List, ltb, if◌then◌else◌}
use Rattle.std.proofs.Math.Option.{Option, none, some}
use Rattle.rules.specs.Promise.{Due, Promise, answering}
use Rattle.layout.specs.Places.{cells_of}
use Rattle.layout.specs.View.{viewed}
use Rattle.layout.specs.WellFormed.{is_well_formed}
use Rattle.replies.specs.Ends.{CellLine, cell_line, EndCall}

-- What is shown of cell c of the register that the words say, if they say one that has it.
unfoldable pub end_of : List ℕ → ℕ → Option CellLine
end_of words c =
    let cell = (viewed words).cells c in
    if is_well_formed words && ltb c (cells_of words) then (some (cell_line c cell)) else none

-- What the question for a cell's end comes to.
abbrev pub showing : EndCall → Due (Option CellLine) Unit
showing = answering (λ call. end_of call.words call.cell)

-- The promise of a cell's end.
abbrev pub EndPromise : List ℕ → ℕ → Option CellLine → Type 0
EndPromise words c reply = Promise showing (record { words = words; cell = c }) reply tt
