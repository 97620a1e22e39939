-- The next step at an order place by its ways, and the cursors that it leaves.
use Rattle.std.proofs.Common.{ℕ, ◌≡◌, ◌+◌, ◌≤◌, ◌<◌, true, List, length, set, refl, sym, ap, ◌∙◌, arith}
use Rattle.std.proofs.Math.Option.{some}
use borrow.Author.Tests.{le-leb, lt-leb}
use Rattle.rules.specs.steps.Codes.{plain_sheet}
use Rattle.rules.specs.steps.Replies.{Refusal, bad_file, no_handler}
use Rattle.rules.specs.steps.Checks.{first_hit}
use Rattle.rules.proofs.steps.Tables.{by}
use Rattle.limits.specs.Limits.{most_file_bytes}
use Rattle.schedule.specs.Bytes.{byte_at}
use Rattle.schedule.specs.Sound.{handlers_in, table_start, order_in, SoundFile, is_sound_file}
use Rattle.schedule.specs.Scripts.{ScriptStep, value_long}
use Rattle.schedule.specs.Taking.{Cursors, cursor_of, Next, rejected, over, refused, taken, left_of, left_checks, place_checks, answered}
use Rattle.schedule.specs.Taking.{named_next, next_of, cursors_after, places_in, NextPromise, PlacesPromise}
use Rattle.schedule.specs.Fronts.{StepInFront, NamedNext}
use Rattle.schedule.proofs.Sounds.{file_tested, sound_tested, not_sound_file, body_short}

-- ── The handler that is named ─────────────────────────────────────────

module _ (file : List ℕ) (cursors : Cursors) (handler : ℕ) where
  -- A refusal uses nothing up.
  named_stays : {refusal : Refusal} → named_next file cursors handler ≡ refused handler refusal
      → NamedNext file cursors handler (refused handler refusal) cursors
  unfolding cursors_after
  named_stays is = record { replied = sym is; left = rw is }

  -- 11 for handler n or above.
  pub named_beyond : handlers_in file ≤ handler → NamedNext file cursors handler (refused handler no_handler) cursors
  unfolding named_next answered place_checks first_hit
  named_beyond beyond = named_stays (rw (le-leb (handlers_in file) handler beyond))

  module _ (below : handler < handlers_in file) where
    -- What is left of the handler's script decides.
    left_decides : first_hit (place_checks file cursors handler) ≡ first_hit (left_checks (left_of file cursors handler))
    unfolding place_checks first_hit
    left_decides = rw (lt-leb (handlers_in file) handler below)

    -- A refusal by what is left.
    pub named_refused : {refusal : Refusal} → first_hit (left_checks (left_of file cursors handler)) ≡ some refusal
        → NamedNext file cursors handler (refused handler refusal) cursors
    unfolding named_next answered
    named_refused stops = named_stays (rw (left_decides, stops))

    -- The step that stands in front.
    pub named_taken : {code value long : ℕ} {after : Cursors} → StepInFront (left_of file cursors handler) code value long
        → after ≡ set cursors handler (cursor_of cursors handler + long)
        → NamedNext file cursors handler (taken handler (record { code = code; value = value })) after
    unfolding named_next answered cursors_after
    named_taken {code} {value} {long} stands is = record { replied = sym taking; left = is ∙ rw taking (ap advanced lasts) }
      where
        -- the cursors with the handler's so much further
        advanced : ℕ → Cursors
        advanced more = set cursors handler (cursor_of cursors handler + more)

        lasts : long ≡ 1 + value_long (plain_sheet code)
        lasts = stands.takes ∙ ap (λ (step : ScriptStep). 1 + value_long (plain_sheet step.code)) (sym stands.step)

        taking : named_next file cursors handler ≡ taken handler (record { code = code; value = value })
        taking = rw (left_decides, stands.passes) (ap (taken handler) (sym stands.step))

-- ── The order place ───────────────────────────────────────────────────

module _ (file : List ℕ) (cursors : Cursors) (place : ℕ) where
  -- A file that is not sound.
  pub next_unsound : {refusal : Refusal} → (¬ SoundFile file) × (refusal ≡ bad_file)
      → NextPromise file cursors place (rejected refusal) cursors
  unfolding next_of cursors_after
  next_unsound (unsound, is) = let bad = sym (not_sound_file unsound) in rw is (record { replied = rw bad; left = rw bad })

  module _ (sound : is_sound_file file ≡ true) where
    -- A place beyond the order.
    pub next_over : length (order_in file) ≤ place → NextPromise file cursors place over cursors
    unfolding next_of cursors_after
    next_over beyond =
        let ended = le-leb (length (order_in file)) place beyond in
        record { replied = rw (sound, ended); left = rw (sound, ended) }

    -- A place that names a handler.
    pub next_named : {handler : ℕ} {reply : Next} {after : Cursors} → place < length (order_in file)
        → handler ≡ byte_at (order_in file) place → NamedNext file cursors handler reply after → NextPromise file cursors place reply after
    unfolding next_of
    next_named inside is named =
        let there = lt-leb (length (order_in file)) place inside in
        record { replied = rw (sound, there, ← is) named.replied; left = rw (sound, there, ← is) named.left }

-- ── The places ────────────────────────────────────────────────────────

module _ {file : List ℕ} where
  -- None in a file that is not sound,
  pub places_none : ¬ SoundFile file → PlacesPromise file 0
  unfolding places_in
  places_none unsound = record { replied = rw (← not_sound_file unsound); left = refl }

  -- and else as many as the order has bytes.
  pub places_there : SoundFile file → PlacesPromise file (length (order_in file))
  unfolding places_in
  places_there sound = record { replied = rw (sound_tested file sound); left = refl }

-- There are no more places than a file has bytes.
pub places_few : (file : List ℕ) → places_in file ≤ most_file_bytes
unfolding places_in
places_few file = by (is_sound_file file)
    (λ sound. rw sound (omega (arith, body_short file table_start (handlers_in file), ((file_tested file).0 sound).short)))
    (λ unsound. rw unsound (omega arith))
