-- The claims of the runner: a file's run place by place, on cursors and words, is the run by the rules, and stops nowhere.
use Rattle.std.specs.Prelude.{ℕ, ◌≡◌, false, List, length}
use Rattle.std.proofs.Math.Option.{none}
use Rattle.rules.specs.steps.Replies.{ready}
use Rattle.layout.specs.Places.{body_of}
use Rattle.layout.specs.View.{view}
use Rattle.promises.specs.Opening.{OpeningPromise}
use Rattle.schedule.specs.Sound.{handlers_in, cells_in, order_in}
use Rattle.schedule.specs.Admitting.{file_refusal}
use Rattle.schedule.specs.Taking.{Cursors, at_start}
use Rattle.runs.specs.ByRules.{Run, ran, run_of}
use Rattle.runs.specs.Players.{the_register}
use Rattle.runs.specs.ByPlaces.{places_from}
use Rattle.runs.specs.Stopping.{ever_stops}

-- What the register shows of so many places, and the register that its words say at the end.
abbrev pub shown_from : List ℕ → ℕ → Cursors → ℕ → List ℕ → Run
shown_from file count cursors place words =
    let run = places_from the_register file count cursors place words in
    record { lines = run.lines; register = view (cells_in file) (handlers_in file) (body_of run.words) }

-- THE RUN OF ITS PLACES. Of every file that is not refused, on all words that are opened for it, what is shown place by place is the
-- run by the rules.
abbrev pub RunOfPlaces : Type 0
RunOfPlaces = (file before words : List ℕ) → file_refusal file ≡ none
    → OpeningPromise before (cells_in file) (handlers_in file) ready words
    → run_of file ≡ ran (handlers_in file) (cells_in file) (shown_from file (length (order_in file)) at_start 0 words)

-- THE REGISTER STOPS NOWHERE, whatever the file, the place and the words: a loop that stops where the judge does shows all of its run.
abbrev pub RegisterGoesOn : Type 0
RegisterGoesOn = (file : List ℕ) (count : ℕ) (cursors : Cursors) (place : ℕ) (words : List ℕ)
    → ever_stops (places_from the_register file count cursors place words).lines ≡ false
