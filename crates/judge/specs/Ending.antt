-- What the judge shows of a cell at the end: what all commits leave there, and how many of them wrote it.
use Rattle.std.specs.Prelude.{ℕ, ◌&&◌, List, ltb, if◌then◌else◌}
use Rattle.std.proofs.Math.Option.{Option, none, some}
use Rattle.rules.specs.Promise.{Due, Promise, answering}
use Rattle.rules.specs.history.History.{every_commit}
use Rattle.rules.specs.history.Replay.{replay}
use Rattle.rules.specs.demand.Judge.{version_count}
use Rattle.layout.specs.Places.{cells_of}
use Rattle.replies.specs.Ends.{CellLine, EndCall}
use Rattle.ledger.specs.Entries.{is_ledger}
use Rattle.ledger.specs.Histories.{history_in}

-- What is shown of cell c, if the words are a ledger that has it.
unfoldable pub judged_end : List ℕ → ℕ → Option CellLine
judged_end words c =
    let commits = (history_in words).commits in
    let line : CellLine = record { content = replay commits every_commit c; number = version_count commits c } in
    if is_ledger words && ltb c (cells_of words) then (some line) else none

-- What the question for a cell's end comes to.
abbrev pub judged_showing : EndCall → Due (Option CellLine) Unit
judged_showing = answering (λ call. judged_end call.words call.cell)

-- The promise of a cell's end.
abbrev pub JudgedEndPromise : List ℕ → ℕ → Option CellLine → Type 0
JudgedEndPromise words c reply = Promise judged_showing (record { words = words; cell = c }) reply tt
