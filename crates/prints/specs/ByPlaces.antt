-- The text of a file's run place by place, on the words of whoever answers its steps. Internal: the contracts of the functions inside
-- this crate cite it; proofs/Whole.antt shows that it is the text by the rules.
use Rattle.std.specs.Prelude.{ℕ, ◌≡◌, Bool, true, not, List, [], ◌++◌, if◌then◌else◌}
use Rattle.text.specs.Bytes.{in_turn}
use Rattle.text.specs.declared.Page.{Page}
use Rattle.text.specs.Pages.{Writes}
use Rattle.lines.specs.Texts.{header_text, lines_text, end_text, refused_text}
use Rattle.schedule.specs.Taking.{at_start, places_in}
use Rattle.schedule.specs.Admitting.{Admission, sound, admission_of}
use Rattle.runs.specs.Players.{Player}
use Rattle.runs.specs.ByPlaces.{places_from, Stretch}
use Rattle.runs.specs.Stopping.{until_stop, ever_stops}

-- The cells as a player shows them from its words.
abbrev pub shown_cells : Player → ℕ → List ℕ → List ℕ
shown_cells player m words = in_turn m (λ c. end_text c (player.showing (record { words = words; cell = c })).reply)

-- All order places of a file, one after another, on opened words.
abbrev pub all_places : Player → List ℕ → List ℕ → Stretch
all_places player file words = places_from player file (places_in file) at_start 0 words

-- The cells behind the lines; none where the run stopped.
abbrev pub cells_behind : Player → ℕ → Stretch → List ℕ
cells_behind player m stretch = if ever_stops stretch.lines then [] else (shown_cells player m stretch.words)

-- What is left of a player's words that are opened.
abbrev pub opened_words : Player → List ℕ → ℕ → ℕ → List ℕ
opened_words player words m n = (player.opening (record { words = words; cells = m; handlers = n })).leaves

-- The text of what a file is admitted to.
unfoldable pub admitted_text : Player → List ℕ → List ℕ → Admission → List ℕ
admitted_text player file words (sound n m) =
    let stretch = all_places player file (opened_words player words m n) in
    header_text n m ++ lines_text (until_stop stretch.lines) ++ cells_behind player m stretch
admitted_text player file words (Admission.refused refusal) = refused_text refusal

-- The text of a file.
abbrev pub file_text : Player → List ℕ → List ℕ → List ℕ
file_text player file words = admitted_text player file words (admission_of file)

-- The lines of some places are put on a page: whether the run came to its end, and what is left of the words if it did.
pub record PlacesPut (stretch : Stretch) (whole : Bool) (before after : Page) (words : List ℕ) : Type 0 where
  pub puts : Writes (lines_text (until_stop stretch.lines)) before after
  pub ended : whole ≡ not (ever_stops stretch.lines)
  pub left : whole ≡ true → words ≡ stretch.words
