-- What is put place by place is what is printed by the rules: with the register all of it, with the judge up to a 65th commit.
use Rattle.std.specs.Prelude.{if◌then◌else◌}
use Prim.Native.Nat.{ℕ, zero, suc, ◌+◌, ◌<◌, ◌≤◌}
use native.Mathlib.Omega.{arith}
use mathlib.Core.Path.{◌≡◌, refl, sym, ap, ap₂, ◌∙◌}
use mathlib.Core.Bool.{false, true≢false}
use mathlib.Core.List.{List, [], ◌∷◌, ◌++◌}
use mathlib.Core.Option.{none, some}
use lib.ListN.{length}
use lib.Dec.{ltb}
use borrow.Author.Tests.{lt-ltb}
use Rattle.rules.specs.Promise.{Promise}
use Rattle.rules.specs.steps.Replies.{Refusal, ready}
use Rattle.rules.proofs.steps.Tables.{by, found}
use Rattle.layout.specs.Places.{body_of}
use Rattle.layout.specs.View.{view}
use Rattle.layout.specs.WellFormed.{WellFormed}
use Rattle.layout.proofs.Places.{body_small}
use Rattle.layout.proofs.Tested.{tested}
use Rattle.layout.proofs.Kept.{Keeps}
use Rattle.promises.specs.Opening.{opening_reply, OpeningPromise}
use Rattle.promises.specs.Stepping.{StepPromise}
use Rattle.promises.proofs.Leaves.{step_keeps, opening_ready}
use Rattle.promises.proofs.Runs.{checks_pass, opens}
use Rattle.replies.specs.Ends.{cell_line}
use Rattle.ledger.specs.Entries.{ledger_long}
use Rattle.ledger.specs.Promises.{ledger_refusal, LedgerPromise}
use Rattle.std.specs.Borrow.{MutBor}
use Rattle.text.specs.declared.Page.{Page}
use Rattle.text.specs.Pages.{Writes}
use Rattle.text.proofs.Pages.{page_whole}
use Rattle.lines.specs.Lines.{Line}
use Rattle.lines.specs.Texts.{header_text, lines_text, cell_text, end_text, refused_text}
use Rattle.schedule.specs.Sound.{handlers_in, cells_in, order_in}
use Rattle.schedule.specs.Admitting.{file_refusal, admitted, admission_of, GoodFile}
use Rattle.schedule.specs.Taking.{Cursors, Next, rejected, over, refused, taken, at_start, places_in, next_of, cursors_after}
use Rattle.schedule.proofs.Sounds.{file_tested}
use Rattle.schedule.proofs.Admits.{good_exactly}
use Rattle.register.specs.Ending.{end_of}
use Rattle.runs.specs.ByRules.{Run, ran, started, run_from, played_by, run_of}
use Rattle.runs.specs.Players.{Player, the_register, the_judge, reply_by, words_by}
use Rattle.runs.specs.ByPlaces.{Stretch, places_from, words_for}
use Rattle.runs.specs.Stopping.{stops, until_stop, ever_stops}
use Rattle.runs.proofs.RunOf.{run_of_places, refused_run}
use Rattle.runs.proofs.GoesOn.{register_goes_on}
use Rattle.agreement.specs.Agreement.{commits_among, judged_from, Agree}
use Rattle.agreement.proofs.Agrees.{judge_agrees}
use Rattle.prints.specs.Printed.{register_text, played_text, printed, judged_text, judged_printed, printing}
use Rattle.prints.specs.ByPlaces.{cells_behind, opened_words, admitted_text, file_text}
use Rattle.prints.proofs.Cells.{cells_alike}

-- ── The register's words at the end ───────────────────────────────────

-- What is as it was, is kept.
kept_as_is : {words : List ℕ} → WellFormed words → Keeps words words
kept_as_is formed = record { well_formed = formed; cell_count = refl; handler_count = refl; size = refl }

-- A place keeps the register well formed, with as many cells and handlers.
place_keeps : (words : List ℕ) (next : Next) → WellFormed words → Keeps words (words_for the_register words next)
unfolding words_for
place_keeps words (rejected refusal) formed = kept_as_is formed
place_keeps words over formed = kept_as_is formed
place_keeps words (refused handler refusal) formed = kept_as_is formed
place_keeps words (taken handler step) formed =
    let promise : StepPromise words handler step.code step.value (reply_by the_register words handler step) (words_by the_register words handler step)
    = record { replied = refl; left = refl } in
    step_keeps promise formed

-- So do places one after another.
places_keep : (file : List ℕ) (count : ℕ) (cursors : Cursors) (place : ℕ) (words : List ℕ) → WellFormed words
    → Keeps words (places_from the_register file count cursors place words).words
unfolding places_from
places_keep file zero cursors place words formed = kept_as_is formed
places_keep file (suc count) cursors place words formed =
    let next = next_of file cursors place in
    let here = place_keeps words next formed in
    let later = places_keep file count (cursors_after cursors next) (place + 1) (words_for the_register words next) here.well_formed in
    record {
      well_formed = later.well_formed;
      cell_count = later.cell_count ∙ here.cell_count;
      handler_count = later.handler_count ∙ here.handler_count;
      size = later.size ∙ here.size;
    }

-- A run that stops nowhere shows all of its lines.
until_all : (lines : List Line) → ever_stops lines ≡ false → until_stop lines ≡ lines
unfolding until_stop ever_stops
until_all [] never = refl
until_all (line ∷ lines) never = by (stops line)
    (λ here. absurd (true≢false (rw here at never)))
    (λ on. rw on (ap (line ∷◌) (until_all lines (rw on at never))))

-- ── A file that is run ────────────────────────────────────────────────

module _ (file : List ℕ) (free : file_refusal file ≡ none) where
  -- It has m cells and n handlers,
  abbrev m : ℕ
  m = cells_in file

  abbrev n : ℕ
  n = handlers_in file

  good : GoodFile file
  good = (good_exactly file).0 free

  -- and as many places as its order has bytes.
  places_are : places_in file ≡ length (order_in file)
  unfolding places_in
  places_are = rw ((file_tested file).1 good.sound)

  -- Its text place by place.
  text_by_places : (player : Player) (words : List ℕ) → let stretch =
      places_from player file (length (order_in file)) at_start 0 (opened_words player words m n) in
      file_text player file words ≡ header_text n m ++ lines_text (until_stop stretch.lines) ++ cells_behind player m stretch
  unfolding admitted_text admission_of admitted
  text_by_places player words = rw (free, places_are)

  -- With the register:
  module _ (words : List ℕ) (long : 2642 ≤ length words) where
    opened : List ℕ
    opened = opened_words the_register words m n

    opening : OpeningPromise words m n ready opened
    unfolding opened
    opening =
        let small = body_small m n good.sound.range.cells good.sound.range.handlers in
        record { replied = (opens words m n good.sound.range (omega (arith, long, small))).replied; left = refl }

    at_end : Stretch
    at_end = places_from the_register file (length (order_in file)) at_start 0 opened

    -- each cell is shown as the register at the end has it,
    cell_shown : (c : ℕ) → c < m → end_text c (end_of at_end.words c) ≡ cell_text c (cell_line c ((view m n (body_of at_end.words)).cells c))
    unfolding end_of at_end
    cell_shown c inside =
        let ready = opening_ready opening in
        let kept = places_keep file (length (order_in file)) at_start 0 opened ready.well_formed in
        let cells = kept.cell_count ∙ ready.cell_count in
        let handlers = kept.handler_count ∙ ready.handler_count in
        rw ((tested _).1 kept.well_formed, cells, handlers, lt-ltb c m inside)

    -- so all of the run is printed.
    register_text_lem : file_text the_register file words ≡ printed file
    unfolding played_text at_end opened
    register_text_lem =
        let goes_on : ever_stops at_end.lines ≡ false = register_goes_on file (length (order_in file)) at_start 0 opened in
        text_by_places the_register words
        ∙ rw goes_on (ap₂ (λ l cells. header_text n m ++ lines_text l ++ cells) (until_all at_end.lines goes_on) (cells_alike m _ _ cell_shown))
        ∙ sym (ap played_text (run_of_places file words opened free opening))

  -- With the judge:
  module _ (words : List ℕ) (long : ledger_long ≤ length words) where
    ledger : LedgerPromise words m n ready (opened_words the_judge words m n)
    unfolding ledger_refusal opening_reply
    ledger = record { replied = rw (checks_pass m n (length words) ledger_long good.sound.range long); left = refl }

    -- the run by the rules,
    by_rules : Run
    by_rules = run_from m n (started file m) 0 (order_in file)

    runs : run_of file ≡ ran n m by_rules
    unfolding run_of admission_of admitted played_by by_rules
    runs = rw free

    judged : Stretch
    judged = judged_from file (opened_words the_judge words m n)

    agree : Agree m judged by_rules
    unfolding judged
    agree = judge_agrees file n m by_rules words (opened_words the_judge words m n) runs ledger

    -- its cells where it has no 65th commit,
    cells_agree : cells_behind the_judge m judged ≡ (if ltb 64 (commits_among by_rules.lines) then [] else (register_text m by_rules.register))
    cells_agree = by (ever_stops judged.lines)
        (λ here. rw (here, sym agree.stopped ∙ here))
        (λ never. rw (never, sym agree.stopped ∙ never) (cells_alike m _ _ (λ c inside. ap (end_text c) (agree.cells never c inside))))

    -- so it is printed up to there.
    judge_text : file_text the_judge file words ≡ judged_printed file
    unfolding judged_text judged
    judge_text =
        text_by_places the_judge words ∙ ap₂ (λ l cells. header_text n m ++ lines_text l ++ cells) agree.lines cells_agree ∙ sym (ap judged_text runs)

-- ── Every file ────────────────────────────────────────────────────────

-- A refused file is one line, whoever would have run it.
refused_text_lem : (player : Player) (file words : List ℕ) {refusal : Refusal} → file_refusal file ≡ some refusal
    → file_text player file words ≡ refused_text refusal
unfolding admitted_text admission_of admitted
refused_text_lem player file words e = rw e

-- What the register's run puts is what is printed,
pub register_prints : (file words : List ℕ) → 2642 ≤ length words → file_text the_register file words ≡ printed file
unfolding played_text
register_prints file words long = found (file_refusal file)
    (λ refusal e. refused_text_lem the_register file words e ∙ sym (ap played_text (refused_run file e)))
    (λ free. register_text_lem file free words long)

-- and what the judge's run puts, what is printed by the judge.
pub judge_prints : (file words : List ℕ) → ledger_long ≤ length words → file_text the_judge file words ≡ judged_printed file
unfolding judged_text
judge_prints file words long = found (file_refusal file)
    (λ refusal e. refused_text_lem the_judge file words e ∙ sym (ap judged_text (refused_run file e)))
    (λ free. judge_text file free words long)

-- A text that is put on an empty page over a buffer is printed as promised.
pub printing_kept : (text : List ℕ → List ℕ) (file : List ℕ) {told left : List ℕ} {buffer : MutBor (List ℕ)} {before after : Page}
    → told ≡ text file → before.end ≡ 0 → before.buffer ≡ buffer → Writes told before after → left ≡ after.buffer.now
    → Promise (printing text) (record { file = file; buffer = buffer.now }) after.end left
printing_kept text file is front lent put kept = let whole = page_whole front lent (rw is at put) in record { replied = whole.0; left = kept ∙ whole.1 }
