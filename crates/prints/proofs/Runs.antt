-- A whole run put together: header, lines and cells, each put behind the other.
use Prim.Native.Nat.{ℕ, ◌≤◌}
use native.Mathlib.Omega.{arith}
use mathlib.Core.Path.{◌≡◌, sym, ap, ◌∙◌}
use mathlib.Core.Bool.{Bool, true, false}
use mathlib.Core.List.{List}
use borrow.Author.Tests.{not-true, not-false}
use Rattle.rules.specs.steps.Replies.{Refusal}
use Rattle.rules.proofs.steps.Tables.{found}
use Rattle.limits.specs.Limits.{most_cells}
use Rattle.text.specs.declared.Page.{Page}
use Rattle.text.specs.Pages.{Writes}
use Rattle.text.proofs.Pages.{writes_none, writes_both}
use Rattle.lines.specs.Texts.{header_text, refused_text}
use Rattle.schedule.specs.Admitting.{Admission, sound, file_refusal, admitted, admission_of}
use Rattle.schedule.specs.Taking.{at_start, places_in}
use Rattle.schedule.proofs.Admits.{good_exactly}
use Rattle.runs.specs.Players.{Player}
use Rattle.runs.specs.ByPlaces.{places_from}
use Rattle.runs.specs.Stopping.{ever_stops}
use Rattle.prints.specs.ByPlaces.{shown_cells, all_places, opened_words, admitted_text, file_text, PlacesPut}

module _ (player : Player) (file words : List ℕ) (n m : ℕ) {places : ℕ} {whole : Bool} {opened left : List ℕ} {x y z : Page}
    (header : Writes (header_text n m) x y) (counted : places ≡ places_in file) (opens : opened ≡ opened_words player words m n)
    (told : PlacesPut (places_from player file places at_start 0 opened) whole y z left) where
  -- The lines are those of all places, on opened words.
  all_places_lem : PlacesPut (all_places player file (opened_words player words m n)) whole y z left
  all_places_lem = rw opens at (rw counted at told)

  -- Where the run stopped, no cell comes behind its lines.
  pub run_stopped : whole ≡ false → Writes (admitted_text player file words (sound n m)) x z
  unfolding admitted_text
  run_stopped is =
      let stops : ever_stops (all_places player file (opened_words player words m n)).lines ≡ true = not-false _ (sym all_places_lem.ended ∙ is) in
      rw stops (writes_both (writes_both header all_places_lem.puts) writes_none)

  -- Where it came to its end, the cells do.
  pub run_whole : {after : Page} → whole ≡ true → Writes (shown_cells player m left) z after
      → Writes (admitted_text player file words (sound n m)) x after
  unfolding admitted_text
  run_whole is cells =
      let goes_on : ever_stops (all_places player file (opened_words player words m n)).lines ≡ false = not-true _ (sym all_places_lem.ended ∙ is) in
      let left : left ≡ (all_places player file (opened_words player words m n)).words = all_places_lem.left is in
      rw (goes_on, sym left) (writes_both (writes_both header all_places_lem.puts) cells)

-- ── A file that is admitted or refused ────────────────────────────────

-- How many cells a file that is admitted has.
cells_admitted : Admission → ℕ
cells_admitted (sound n m) = m
cells_admitted (Admission.refused refusal) = 0

-- They are no more than a register has.
pub admitted_cells : (file : List ℕ) {n m : ℕ} → sound n m ≡ admission_of file → m ≤ most_cells
unfolding cells_admitted admission_of admitted
admitted_cells file is = found (file_refusal file)
    (λ refusal e. omega (arith, ap cells_admitted is ∙ ap (λ o. cells_admitted (admitted file o)) e))
    (λ free. omega (arith, ap cells_admitted is ∙ ap (λ o. cells_admitted (admitted file o)) free, ((good_exactly file).0 free).sound.range.cells))

-- The one line of a refused file is all of its text.
pub refused_put : (player : Player) (file words : List ℕ) {refusal : Refusal} {x y : Page} → Admission.refused refusal ≡ admission_of file
    → Writes (refused_text refusal) x y → Writes (file_text player file words) x y
unfolding admitted_text
refused_put player file words is put = rw (sym is) put
