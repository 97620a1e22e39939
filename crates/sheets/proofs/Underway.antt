-- A run that is being counted: the sheet with the lines that are still to come is the sheet at first with all of them, and each count
-- has risen by no more than one a place.
use Prim.Native.Nat.{ℕ, suc, ◌+◌, ◌-◌, ◌≤◌, ◌<◌}
use mathlib.Core.Path.{◌≡◌, refl, sym, ap, ◌∙◌}
use mathlib.Core.List.{List, []}
use mathlib.Core.Option.{Option}
use native.Mathlib.Omega.{arith}
use lib.ListN.{length}
use Rattle.limits.specs.Limits.{most_file_bytes}
use Rattle.lines.specs.Lines.{Line}
use Rattle.schedule.specs.Taking.{Cursors}
use Rattle.runs.specs.Players.{the_register}
use Rattle.runs.specs.ByPlaces.{in_front, places_from, PlacePromise}
use Rattle.sheets.specs.Sheets.{full_above, with_lines}
use Rattle.sheets.specs.Adding.{CountsTo, most_raised}
use Rattle.sheets.proofs.WithLines.{with_length, counted_with, count_most, with_none, with_front}

-- The lines of so many places from one on, with the register.
abbrev lines_from : List ℕ → ℕ → Cursors → ℕ → List ℕ → List Line
lines_from file count cursors place words = (places_from the_register file count cursors place words).lines

-- A line raises each count by no more than one.
line_raises : (words : List ℕ) (line : Option Line) {most : ℕ} → CountsTo most words → CountsTo (most + 1) (with_lines words (in_front line []))
line_raises words line to = record {
  long = omega (arith, with_length words (in_front line []) to.long, to.long);
  each = λ handler k inside among. omega (
    arith,
    counted_with words (in_front line []) handler k inside among,
    count_most handler k line,
    to.each handler k inside among,
  );
}

-- What is to come from a place on is its line, and what comes behind it.
to_come : {file : List ℕ} {places : ℕ} {cursors used : Cursors} {place : ℕ} {words left : List ℕ} {line : Option Line} → place < places
    → PlacePromise the_register file cursors place words line used left
    → lines_from file (places - place) cursors place words ≡ in_front line (lines_from file (places - (place + 1)) used (place + 1) left)
unfolding places_from
to_come {places = places} {place = place} within promise =
    let fewer : places - place ≡ suc (places - (place + 1)) = omega (arith, within) in
    rw (fewer, promise.replied, ap (λ l. l.cursors) promise.left, ap (λ l. l.words) promise.left)

-- Of a run of so many places the lines before a place are counted, and those from there on are to come.
pub record Underway (file : List ℕ) (places : ℕ) (cursors : Cursors) (place : ℕ) (words before now : List ℕ) (all : List Line) : Type 0 where
  pub room : CountsTo (full_above + place) now
  pub size : length now ≡ length before
  pub lines : with_lines now (lines_from file (places - place) cursors place words) ≡ with_lines before all

-- Before the first place all is to come.
pub underway_start : {file : List ℕ} {places : ℕ} {cursors : Cursors} {words sheet : List ℕ} → CountsTo full_above sheet
    → Underway file places cursors 0 words sheet sheet (lines_from file places cursors 0 words)
underway_start {places = places} to =
    let whole : places - 0 ≡ places = omega arith in
    record { room = to; size = refl; lines = rw whole }

-- At every place of a file each count can still be raised.
pub underway_room : {file : List ℕ} {places : ℕ} {cursors : Cursors} {place : ℕ} {words before now : List ℕ} {all : List Line}
    → place ≤ most_file_bytes → Underway file places cursors place words before now all → CountsTo most_raised now
underway_room few so_far = record {
  long = so_far.room.long;
  each = λ handler k inside among. omega (arith, so_far.room.each handler k inside among);
}

-- A place is counted: the others are to come.
pub underway_more : {file : List ℕ} {places : ℕ} {cursors used : Cursors} {place : ℕ} {words left before now after : List ℕ} {line : Option Line}
    {all : List Line} → place < places → Underway file places cursors place words before now all
    → PlacePromise the_register file cursors place words line used left → after ≡ with_lines now (in_front line [])
    → Underway file places used (place + 1) left before after all
underway_more {file} {places} {cursors} {used} {place} {words} {left} {now = now} {line = line} within so_far promise is = record {
  room = rw is (rw more at (line_raises now line so_far.room));
  size = ap length is ∙ with_length now (in_front line []) so_far.room.long ∙ so_far.size;
  lines = rw is (with_front now so_far.room.long line later ∙ ap (with_lines now) (sym (to_come within promise)) ∙ so_far.lines);
}
  where
    later : List Line
    later = lines_from file (places - (place + 1)) used (place + 1) left

    more : full_above + place + 1 ≡ full_above + (place + 1)
    more = omega arith

-- Behind the last place all lines are counted.
pub underway_end : {file : List ℕ} {places : ℕ} {cursors : Cursors} {place : ℕ} {words before now : List ℕ} {all : List Line} → places ≡ place
    → Underway file places cursors place words before now all → now ≡ with_lines before all
unfolding places_from
underway_end {places = places} {place = place} {now = now} ends so_far =
    let none_left : places - place ≡ 0 = omega (arith, ends) in
    with_none now so_far.room.long ∙ rw none_left at so_far.lines
