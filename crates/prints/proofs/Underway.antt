-- A run that is underway: the lines that are put on a page and those that are still to come are all of its lines.
use Prim.Native.Nat.{ℕ, suc, ◌+◌, ◌-◌, ◌<◌}
use mathlib.Core.Path.{◌≡◌, refl, sym, ap, ◌∙◌}
use mathlib.Core.Bool.{true, false, not, true≢false}
use mathlib.Core.List.{List, [], ◌++◌, append_assoc, append-nil}
use mathlib.Core.Option.{Option, none, some}
use native.Mathlib.Omega.{arith}
use Rattle.text.specs.declared.Page.{Page}
use Rattle.text.specs.Pages.{Writes}
use Rattle.text.proofs.Pages.{writes_none, writes_both}
use Rattle.lines.specs.Lines.{Line}
use Rattle.lines.specs.Texts.{place_text, lines_text}
use Rattle.schedule.specs.Taking.{Cursors}
use Rattle.runs.specs.Players.{Player}
use Rattle.runs.specs.ByPlaces.{Stretch, in_front, places_from, PlacePromise}
use Rattle.runs.specs.Stopping.{stops_at, until_stop, ever_stops}
use Rattle.prints.specs.ByPlaces.{PlacesPut}

-- ── A line in front of others ─────────────────────────────────────────

-- Its text comes before theirs where the run does not stop at it,
front_text_lem : (line : Option Line) (lines : List Line) → stops_at line ≡ false
    → lines_text (until_stop (in_front line lines)) ≡ place_text line ++ lines_text (until_stop lines)
unfolding until_stop lines_text
front_text_lem none lines on = refl
front_text_lem (some line) lines on = rw on

-- and the run stops just where it stops behind;
front_stops : (line : Option Line) (lines : List Line) → stops_at line ≡ false → ever_stops (in_front line lines) ≡ ever_stops lines
unfolding ever_stops
front_stops none lines on = refl
front_stops (some line) lines on = rw on

-- a line at which it stops is the last,
last_text : (line : Option Line) (lines : List Line) → stops_at line ≡ true → lines_text (until_stop (in_front line lines)) ≡ place_text line
unfolding until_stop lines_text
last_text none lines here = absurd (true≢false (sym here))
last_text (some line) lines here = rw here (append-nil _)

-- and the run has stopped.
last_stops : (line : Option Line) (lines : List Line) → stops_at line ≡ true → ever_stops (in_front line lines) ≡ true
unfolding ever_stops
last_stops none lines here = absurd (true≢false (sym here))
last_stops (some line) lines here = rw here

-- ── Underway ──────────────────────────────────────────────────────────

-- Of a whole run of so many places the lines before a place are put, and those from there on are to come.
pub record Underway (player : Player) (file : List ℕ) (places : ℕ) (cursors : Cursors) (place : ℕ) (words : List ℕ) (whole : Stretch)
    (before after : Page) : Type 0 where
  pub text : List ℕ
  pub puts : Writes text before after
  pub lines : let rest = places_from player file (places - place) cursors place words in
      lines_text (until_stop whole.lines) ≡ text ++ lines_text (until_stop rest.lines)
  pub stops : ever_stops whole.lines ≡ ever_stops (places_from player file (places - place) cursors place words).lines
  pub ends : whole.words ≡ (places_from player file (places - place) cursors place words).words

-- Before the first place all is to come.
pub underway_start : {player : Player} {file : List ℕ} {places : ℕ} {cursors : Cursors} {words : List ℕ} {page : Page}
    → Underway player file places cursors 0 words (places_from player file places cursors 0 words) page page
underway_start {places = places} =
    let all : places - 0 ≡ places = omega arith in
    record { text = []; puts = writes_none; lines = rw all; stops = rw all; ends = rw all }

module _ {player : Player} {file : List ℕ} {places : ℕ} {cursors used : Cursors} {place : ℕ} {words left : List ℕ} {line : Option Line}
    {whole : Stretch} {before between after : Page}
    (within : place < places) (so_far : Underway player file places cursors place words whole before between)
    (promise : PlacePromise player file cursors place words line used left) (puts : Writes (place_text line) between after) where
  -- What comes behind this place.
  later : Stretch
  later = places_from player file (places - (place + 1)) used (place + 1) left

  -- What is to come is the line of this place, and what comes behind it.
  to_come : places_from player file (places - place) cursors place words ≡ record { lines = in_front line later.lines; words = later.words }
  unfolding places_from later
  to_come =
      let fewer : places - place ≡ suc (places - (place + 1)) = omega (arith, within) in
      rw (fewer, promise.replied, ap (λ l. l.cursors) promise.left, ap (λ l. l.words) promise.left)

  -- A line at which the run does not stop is put: the others are to come.
  pub underway_more : stops_at line ≡ false → Underway player file places used (place + 1) left whole before after
  unfolding later
  underway_more on = record {
    text = so_far.text ++ place_text line;
    puts = writes_both so_far.puts puts;
    lines =
        so_far.lines ∙ ap (λ s. so_far.text ++ lines_text (until_stop s.lines)) to_come
        ∙ ap (so_far.text ++◌) (front_text_lem line later.lines on) ∙ sym (append_assoc so_far.text (place_text line) _);
    stops = so_far.stops ∙ ap (λ s. ever_stops s.lines) to_come ∙ front_stops line later.lines on;
    ends = so_far.ends ∙ ap (λ s. s.words) to_come;
  }

  -- A line at which it stops is the last.
  pub underway_last : stops_at line ≡ true → PlacesPut whole false before after left
  underway_last here = record {
    puts = rw (so_far.lines ∙ ap (λ s. so_far.text ++ lines_text (until_stop s.lines)) to_come
        ∙ ap (so_far.text ++◌) (last_text line later.lines here)) (writes_both so_far.puts puts);
    ended = sym (ap not (so_far.stops ∙ ap (λ s. ever_stops s.lines) to_come ∙ last_stops line later.lines here));
    left = λ is. absurd (true≢false (sym is));
  }

-- Behind the last place all lines are put.
pub underway_end : {player : Player} {file : List ℕ} {places : ℕ} {cursors : Cursors} {place : ℕ} {words : List ℕ} {whole : Stretch}
    {before after : Page} → places ≡ place → Underway player file places cursors place words whole before after
    → PlacesPut whole true before after words
unfolding places_from lines_text until_stop ever_stops
underway_end {places = places} {place = place} all so_far =
    let none_left : places - place ≡ 0 = omega (arith, all) in
    record {
      puts = rw (rw none_left at so_far.lines ∙ append-nil so_far.text) so_far.puts;
      ended = sym (ap not (rw none_left at so_far.stops));
      left = λ is. sym (rw none_left at so_far.ends);
    }
