-- The next step at an order place: an order byte names the handler whose next step is taken. Order: 11, 32, then the step.
use Rattle.std.specs.Prelude.{ℕ, ◌+◌, Bool, ◌||◌, List, [], ◌∷◌, leb, ltb, length, get_or, set, drop, replicate, if◌then◌else◌}
use Rattle.std.proofs.Math.Option.{Option, none, some}
use Rattle.rules.specs.steps.Codes.{plain_sheet}
use Rattle.rules.specs.Promise.{Due, Promise, answering}
use Rattle.rules.specs.steps.Replies.{Refusal, bad_file, no_handler, used_up, unknown_step}
use Rattle.rules.specs.steps.Checks.{Check, ◌when◌, first_hit, is_unknown}
use Rattle.schedule.specs.Bytes.{byte_at}
use Rattle.schedule.specs.Sound.{handlers_in, script_in, order_in, is_sound_file}
use Rattle.schedule.specs.Scripts.{ScriptStep, value_long, first_step}

-- Cursors: of each handler, in a row, the place in its body up to which its script is used up.
abbrev pub Cursors : Type 0
Cursors = List ℕ

-- The cursor of a handler.
abbrev pub cursor_of : Cursors → ℕ → ℕ
cursor_of cursors handler = get_or cursors handler 0

-- Before the first order place nothing is used up.
abbrev pub at_start : Cursors
at_start = replicate 16 0

-- The question for them is given nothing.
abbrev pub starts : Unit {0} → Due Cursors Unit
starts = answering (λ asked. at_start)

-- The promise of the cursors before the first order place.
abbrev pub StartPromise : Cursors → Type 0
StartPromise cursors = Promise starts tt cursors tt

-- What comes next at an order place.
pub data Next : Type 0 where
  -- the whole file is refused
  rejected : Refusal → Next
  -- the order has no such place
  over : Next
  -- the place is refused; the handler is the order byte
  refused : ℕ → Refusal → Next
  -- the handler's step
  taken : ℕ → ScriptStep → Next

-- The bytes of a handler's script that are not used up.
abbrev pub left_of : List ℕ → Cursors → ℕ → List ℕ
left_of file cursors handler = drop (cursor_of cursors handler) (script_in file handler)

-- How many bytes the step at the front of some bytes takes.
abbrev pub step_long : List ℕ → ℕ
step_long bytes = 1 + value_long (plain_sheet (byte_at bytes 0))

-- The step at the front of some bytes has an unknown code or is cut short.
abbrev pub is_spoilt : List ℕ → Bool
is_spoilt bytes = is_unknown (plain_sheet (byte_at bytes 0)) || ltb (length bytes) (step_long bytes)

-- 32 where nothing is left. 15 where no step stands in front, as is so nowhere in a run of a file that is admitted sound.
unfoldable pub left_checks : List ℕ → List (Check Refusal)
left_checks left = (used_up when leb (length left) 0) ∷ (unknown_step when is_spoilt left) ∷ []

-- 11 for handler n or above, then what its script leaves.
unfoldable pub place_checks : List ℕ → Cursors → ℕ → List (Check Refusal)
place_checks file cursors handler = (no_handler when leb (handlers_in file) handler) ∷ left_checks (left_of file cursors handler)

-- What the checks of an order place come to.
unfoldable pub answered : List ℕ → Cursors → ℕ → Option Refusal → Next
answered file cursors handler (some refusal) = refused handler refusal
answered file cursors handler none = taken handler (first_step (left_of file cursors handler))

-- The next step of the handler that the order byte names.
unfoldable pub named_next : List ℕ → Cursors → ℕ → Next
named_next file cursors handler = answered file cursors handler (first_hit (place_checks file cursors handler))

-- The next step at an order place of a file.
unfoldable pub next_of : List ℕ → Cursors → ℕ → Next
next_of file cursors place =
    let in_order = if leb (length (order_in file)) place then over else (named_next file cursors (byte_at (order_in file) place)) in
    if is_sound_file file then in_order else (rejected bad_file)

-- The cursors afterwards: a step that is taken is used up, a refusal uses nothing up.
unfoldable pub cursors_after : Cursors → Next → Cursors
cursors_after cursors (rejected refusal) = cursors
cursors_after cursors over = cursors
cursors_after cursors (refused handler refusal) = cursors
cursors_after cursors (taken handler step) =
    set cursors handler (cursor_of cursors handler + (1 + value_long (plain_sheet step.code)))

-- How many places the order has; none in a file that is not sound.
unfoldable pub places_in : List ℕ → ℕ
places_in file = if is_sound_file file then (length (order_in file)) else 0

-- The promise of the count of places.
abbrev pub PlacesPromise : List ℕ → ℕ → Type 0
PlacesPromise file reply = Promise (answering places_in) file reply tt

-- What the next step is asked of: the file, the cursors, and the order place.
pub record NextCall : Type 0 where
  pub file : List ℕ
  pub cursors : Cursors
  pub place : ℕ

-- What it comes to, and the cursors afterwards.
abbrev pub takes_next : NextCall → Due Next Cursors
takes_next call =
    let next = next_of call.file call.cursors call.place in
    record { reply = next; leaves = cursors_after call.cursors next }

-- The promise of a next step.
abbrev pub NextPromise : List ℕ → Cursors → ℕ → Next → Cursors → Type 0
NextPromise file cursors place reply after = Promise takes_next (record { file = file; cursors = cursors; place = place }) reply after
