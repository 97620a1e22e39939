-- A file that is admitted: the lines of its run by the rules are those of its order places, on words that are opened for it.
use Prim.Native.Nat.{ℕ, ◌≤◌}
use mathlib.Core.Path.{◌≡◌, sym, ap, ◌∙◌}
use mathlib.Core.List.{List}
use mathlib.Core.Option.{none, some}
use native.Mathlib.Omega.{arith}
use lib.ListN.{length}
use Rattle.rules.specs.steps.Replies.{Refusal, ready}
use Rattle.rules.proofs.steps.Tables.{found}
use Rattle.layout.proofs.Places.{body_small}
use Rattle.promises.specs.Opening.{opening, OpeningPromise}
use Rattle.promises.proofs.Runs.{opens}
use Rattle.schedule.specs.Sound.{handlers_in, cells_in, order_in}
use Rattle.schedule.specs.Admitting.{Admission, sound, file_refusal, admitted, admission_of, GoodFile}
use Rattle.schedule.specs.Taking.{at_start, places_in}
use Rattle.schedule.proofs.Sounds.{file_tested}
use Rattle.schedule.proofs.Admits.{good_exactly}
use Rattle.runs.specs.ByRules.{run_of}
use Rattle.runs.specs.Players.{the_register}
use Rattle.runs.specs.ByPlaces.{places_from}
use Rattle.runs.proofs.RunOf.{run_of_places}
use Rattle.sheets.specs.Sheets.{lines_of}

-- A file that is refused is refused with what its checks say.
pub refused_says : (file : List ℕ) {refusal : Refusal} → Admission.refused refusal ≡ admission_of file → file_refusal file ≡ some refusal
unfolding admission_of admitted
refused_says file is = found (file_refusal file)
    (λ other e. let same = is ∙ ap (admitted file) e in e ∙ cc)
    (λ free. let z : ◌≡◌ {A = ℕ} 0 1 = cc (is ∙ ap (admitted file) free) in absurd (omega arith))

-- Nothing is said against a file that is admitted,
pub admitted_free : (file : List ℕ) {n m : ℕ} → sound n m ≡ admission_of file → file_refusal file ≡ none
unfolding admission_of admitted
admitted_free file is = found (file_refusal file)
    (λ refusal e. let z : ◌≡◌ {A = ℕ} 0 1 = cc (is ∙ ap (admitted file) e) in absurd (omega arith))
    (λ free. free)

-- its handlers and cells are those that it is admitted with,
admitted_with : (file : List ℕ) {n m : ℕ} → sound n m ≡ admission_of file → sound n m ≡ sound (handlers_in file) (cells_in file)
unfolding admission_of admitted
admitted_with file is = is ∙ ap (admitted file) (admitted_free file is)

-- and its places are the bytes of its order.
places_are : {file : List ℕ} → GoodFile file → places_in file ≡ length (order_in file)
unfolding places_in
places_are {file} good = rw ((file_tested file).1 good.sound)

-- The lines of its run are those of its places, on words that are opened for it and were enough.
pub admitted_lines : (file before : List ℕ) {words : List ℕ} {n m places : ℕ} → sound n m ≡ admission_of file → 2642 ≤ length before
    → words ≡ (opening (record { words = before; cells = m; handlers = n })).leaves → places ≡ places_in file
    → (places_from the_register file places at_start 0 words).lines ≡ lines_of (run_of file)
admitted_lines file before {words} {n} {m} is long opened counted =
    rw (counted ∙ places_are good) (sym (ap lines_of (run_of_places file before words free promise)))
  where
    free : file_refusal file ≡ none
    free = admitted_free file is

    good : GoodFile file
    good = (good_exactly file).0 free

    n_is : n ≡ handlers_in file
    n_is = let with_them = admitted_with file is in cc

    m_is : m ≡ cells_in file
    m_is = let with_them = admitted_with file is in cc

    promise : OpeningPromise before (cells_in file) (handlers_in file) ready words
    promise =
        let range = good.sound.range in
        let small = body_small (cells_in file) (handlers_in file) range.cells range.handlers in
        let ready = opens before (cells_in file) (handlers_in file) range (omega (arith, long, small)) in
        record { replied = ready.replied; left = rw (n_is, m_is) at opened }
