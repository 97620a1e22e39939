-- Each number of an order place, and of a script that is asked for, is given exactly then.
use Rattle.std.proofs.Common.{ℕ, ◌≡◌, List, ◌↔◌, ◌⊎◌, inl, inr, length, leb}
use Rattle.std.proofs.Math.Option.{none, some}
use borrow.Author.Tests.{leb-true, leb-false, le-leb, lt-leb}
use Rattle.rules.specs.steps.Replies.{Refusal, bad_file, no_handler, used_up, unknown_step}
use Rattle.rules.specs.steps.Checks.{first_hit}
use Rattle.rules.proofs.steps.Tables.{by, both_ways}
use Rattle.rules.proofs.steps.Given.{exactly}
use Rattle.schedule.specs.Sound.{handlers_in, is_sound_file}
use Rattle.schedule.specs.Finding.{script_checks, script_refusal}
use Rattle.schedule.specs.Taking.{Cursors, left_of, is_spoilt, left_checks, place_checks}
use Rattle.schedule.specs.Given.{PlaceGiven, nothing_left, no_step_there, ScriptGiven, unsound}
use Rattle.schedule.proofs.Sounds.{file_tested, not_sound_file}

module _ (file : List ℕ) (cursors : Cursors) (handler : ℕ) where
  -- The checks of an order place give 11, 32 and 15 exactly then, and no other number.
  pub place_exactly : (refusal : Refusal) → (first_hit (place_checks file cursors handler) ≡ some refusal) ↔ PlaceGiven file cursors handler refusal
  unfolding place_checks left_checks first_hit
  place_exactly = exactly (PlaceGiven file cursors handler) hits decided
    where
      hits : (refusal : Refusal) → PlaceGiven file cursors handler refusal → first_hit (place_checks file cursors handler) ≡ some refusal
      hits _ (PlaceGiven.beyond outside) = rw (le-leb (handlers_in file) handler outside)
      hits _ (nothing_left inside empty) = rw (lt-leb (handlers_in file) handler inside, le-leb (length (left_of file cursors handler)) 0 empty)
      hits _ (no_step_there inside left spoilt) =
          rw (lt-leb (handlers_in file) handler inside, lt-leb (length (left_of file cursors handler)) 0 left, spoilt)

      decided : ((refusal : Refusal) × PlaceGiven file cursors handler refusal) ⊎ (first_hit (place_checks file cursors handler) ≡ none)
      decided = by (leb (handlers_in file) handler)
          (λ outside. inl (no_handler, PlaceGiven.beyond (leb-true (handlers_in file) handler outside)))
          (λ inside. by (leb (length (left_of file cursors handler)) 0)
          (λ empty. inl (used_up, nothing_left (leb-false (handlers_in file) handler inside) (leb-true _ 0 empty)))
          (λ left. by (is_spoilt (left_of file cursors handler))
          (λ spoilt. inl (unknown_step, no_step_there (leb-false (handlers_in file) handler inside) (leb-false _ 0 left) spoilt))
          (λ sound. inr (rw (inside, left, sound)))))

module _ (file : List ℕ) (handler : ℕ) where
  -- The checks of a script give 30 and 11 exactly then, and no other number.
  pub script_exactly : (refusal : Refusal) → (script_refusal file handler ≡ some refusal) ↔ ScriptGiven file handler refusal
  unfolding script_refusal script_checks first_hit
  script_exactly = exactly (ScriptGiven file handler) hits decided
    where
      hits : (refusal : Refusal) → ScriptGiven file handler refusal → script_refusal file handler ≡ some refusal
      hits _ (unsound out) = rw (← not_sound_file out)
      hits _ (ScriptGiven.beyond sound outside) = rw ((file_tested file).1 sound, le-leb (handlers_in file) handler outside)

      decided : ((refusal : Refusal) × ScriptGiven file handler refusal) ⊎ (script_refusal file handler ≡ none)
      decided = by (is_sound_file file)
          (λ sound. by (leb (handlers_in file) handler)
          (λ outside. inl (no_handler, ScriptGiven.beyond ((file_tested file).0 sound) (leb-true (handlers_in file) handler outside)))
          (λ inside. inr (rw (sound, inside))))
          (λ bad. inl (bad_file, unsound (λ sound. both_ways ((file_tested file).1 sound) bad)))
