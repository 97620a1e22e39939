-- The judge agrees with the runner, proved: the runner's run is that of a register opened for the file, and the judge plays alongside.
use Prim.Native.Nat.{ℕ, ◌<◌}
use native.Mathlib.Omega.{arith}
use mathlib.Core.Path.{◌≡◌, sym, subst}
use mathlib.Core.List.{List}
use mathlib.Core.Option.{some}
use lib.ListN.{length, replicate, length-replicate}
use borrow.Author.Tests.{lt-ltb}
use Rattle.rules.specs.steps.Replies.{ready}
use Rattle.rules.specs.steps.Register.{fresh}
use Rattle.rules.specs.steps.Given.{InRange}
use Rattle.rules.specs.history.History.{every_commit, no_history}
use Rattle.rules.proofs.steps.Tables.{found}
use Rattle.rules.proofs.history.Alike.{length_same, replay_same, version_count_same}
use Rattle.layout.specs.Places.{body_of}
use Rattle.layout.specs.View.{word_setting, view, register_in}
use Rattle.layout.proofs.Places.{body_small}
use Rattle.replies.specs.Ends.{cell_line}
use Rattle.promises.specs.Opening.{OpeningPromise}
use Rattle.promises.specs.Runs.{opened}
use Rattle.promises.proofs.Runs.{opens}
use Rattle.promises.proofs.Inherits.{words_told}
use Rattle.ledger.specs.Promises.{LedgerPromise}
use Rattle.ledger.proofs.Tested.{tested}
use Rattle.ledger.proofs.Histories.{Says}
use Rattle.ledger.proofs.Opened.{ledger_ready}
use Rattle.schedule.specs.Sound.{handlers_in, cells_in, order_in}
use Rattle.schedule.specs.Taking.{at_start}
use Rattle.schedule.specs.Admitting.{file_refusal}
use Rattle.schedule.proofs.Admits.{good_exactly}
use Rattle.judge.specs.Ending.{judged_end}
use Rattle.runs.specs.ByRules.{Played, ran, run_of}
use Rattle.runs.specs.RunOfPlaces.{shown_from}
use Rattle.runs.proofs.RunOf.{run_of_places, refused_run}
use Rattle.agreement.specs.Agreement.{judged_from, Agree, JudgeAgrees}
use Rattle.agreement.proofs.Cut.{cut_lines, cut_stops}
use Rattle.agreement.proofs.Counts.{commits_noted_lem}
use Rattle.agreement.proofs.Beside.{Beside, Room}
use Rattle.agreement.proofs.Alongside.{places_alongside}

-- Words beside each other show the same cells.
cells_agree : {m n : ℕ} {words ledger : List ℕ} → Beside m n words ledger → (c : ℕ) → c < m
    → judged_end ledger c ≡ some (cell_line c ((view m n (body_of words)).cells c))
unfolding judged_end
cells_agree {m} beside c inside =
    let told = words_told beside.run c in
    let commits = beside.says.same.commits in
    rw ((tested _).1 beside.says.ledger, beside.says.cells, lt-ltb c m inside)
    (rw (told.shows, told.number, replay_same commits every_commit, version_count_same commits c))

module _ {m n : ℕ} {ledger : List ℕ} (says : Says m n ledger no_history) where
  -- An opened ledger stands beside every opened register,
  fresh_beside : {before words : List ℕ} → OpeningPromise before m n ready words → Beside m n words ledger
  fresh_beside opening = record { asks = _; history = _; run = opened opening; says = says }

  -- and has room for 64 commits.
  fresh_room : Room 64 ledger
  unfolding no_history
  fresh_room = omega (arith, commits_noted_lem ledger, length_same says.same.commits)

-- A register can be opened for every m and n in range.
register_opens : {m n : ℕ} → InRange m n
    → OpeningPromise (replicate 2642 0) m n ready (register_in (replicate 2642 0) m n (fresh (word_setting m)))
register_opens {m} {n} range =
    opens (replicate 2642 0) m n range (rw (length-replicate {A = ℕ} 2642 0) (omega (arith, body_small m n range.cells range.handlers)))

-- The judge agrees with what a file comes to, if it is run.
abbrev Agrees : List ℕ → List ℕ → Played → Type 0
Agrees file words (ran n m run) = (before : List ℕ) → LedgerPromise before m n ready words → Agree m (judged_from file words) run
Agrees file words (Played.refused refusal) = Unit {0}

module _ (file words : List ℕ) where
  -- It agrees with a run on an opened register,
  run_agrees : {before opening after : List ℕ} → LedgerPromise before (cells_in file) (handlers_in file) ready words
      → OpeningPromise opening (cells_in file) (handlers_in file) ready after
      → Agree (cells_in file) (judged_from file words) (shown_from file (length (order_in file)) at_start 0 after)
  run_agrees ledger opening =
      let fresh = ledger_ready ledger in
      let along = places_alongside file (length (order_in file)) at_start 0 64 (fresh_beside fresh opening) (fresh_room fresh) in
      record { lines = cut_lines along.lines; stopped = cut_stops along.lines; cells = λ never. cells_agree (along.words never) }

  -- so it agrees with the run of every file.
  file_agrees : Agrees file words (run_of file)
  file_agrees = found (file_refusal file)
      (λ refusal e. rw (refused_run file e) tt)
      (λ free. let opening = register_opens ((good_exactly file).0 free).sound.range in
      subst (Agrees file words) (sym (run_of_places file _ _ free opening)) (λ before ledger. run_agrees ledger opening))

-- THE JUDGE AGREES.
pub judge_agrees : JudgeAgrees
judge_agrees file n m run before words e ledger = subst (Agrees file words) e (file_agrees file words) before ledger
