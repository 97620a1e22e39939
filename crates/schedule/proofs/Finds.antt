-- A handler's script by its ways: not found with 30 or 11, and then at 0 and 0 long, or where the table's entry says; it lies in the file.
use Rattle.std.proofs.Common.{ℕ, ◌≡◌, ◌+◌, ◌≤◌, ◌<◌, not, List, [], Result, Ok, Err, length, refl, arith}
use Rattle.std.proofs.Math.Option.{Option, none, some}
use Rattle.std.specs.Result.{result_unwrap_or}
use borrow.Author.Tests.{leb-false, le-leb, lt-leb, not-false}
use Rattle.rules.specs.steps.Replies.{Refusal, bad_file, no_handler}
use Rattle.rules.specs.steps.Checks.{first_hit}
use Rattle.rules.proofs.steps.Given.{none_holds}
use Rattle.schedule.specs.Bytes.{entry_part}
use Rattle.schedule.specs.Sound.{handlers_in, table_start, SoundFile, is_sound_file}
use Rattle.schedule.specs.Finding.{script_checks, script_refusal, script_part, found_part, PartPromise}
use Rattle.replies.specs.declared.Refusal.{Refusal as Replied}
use Rattle.schedule.specs.declared.Part.{Part}
use Rattle.schedule.specs.Fronts.{ScriptAt}
use Rattle.schedule.proofs.Sounds.{file_tested, sound_tested, not_sound_file, body_inside}

module _ (file : List ℕ) (handler : ℕ) where
  -- The file is not sound.
  pub script_unsound : {refusal : Refusal} → (¬ SoundFile file) × (refusal ≡ bad_file) → script_refusal file handler ≡ some refusal
  unfolding script_refusal script_checks first_hit
  script_unsound (unsound, is) = rw (← not_sound_file unsound, is)

  module _ (sound : SoundFile file) where
    -- There is no such handler.
    pub script_beyond : handlers_in file ≤ handler → script_refusal file handler ≡ some no_handler
    unfolding script_refusal script_checks first_hit
    script_beyond beyond = rw (sound_tested file sound, le-leb (handlers_in file) handler beyond)

    -- The script is found, and lies where the table says.
    pub script_there : handler < handlers_in file
        → (script_refusal file handler ≡ none) × (entry_part file table_start handler ≡ script_part file handler)
    unfolding script_refusal script_checks first_hit found_part
    script_there below =
        let inside = lt-leb (handlers_in file) handler below in
        (rw (sound_tested file sound, inside), rw (sound_tested file sound, inside))

  -- Where a script lies is what was found, and 0 and 0 where nothing was.
  pub part_given : (found : Result Part Replied) → ScriptAt file handler found
      → PartPromise file handler (result_unwrap_or found (record { offset = 0; length = 0 }))
  unfolding found_part
  part_given (Ok place) (there, is) = record { replied = is; left = refl }
  part_given (Err refusal) missing = record { replied = rw missing; left = refl }

  -- Where a script is found, the file is sound and has such a handler.
  found_there : script_refusal file handler ≡ none → SoundFile file × (handler < handlers_in file)
  unfolding script_refusal script_checks
  found_there found =
      let (tested, passes) = (none_holds bad_file (not (is_sound_file file)) _).0 found in
      ((file_tested file).0 (not-false _ tested), leb-false (handlers_in file) handler ((none_holds no_handler _ []).0 passes).0)

  -- A script lies in the file, found or not.
  pub part_inside : (place : Part) → PartPromise file handler place → place.offset + place.length ≤ length file
  unfolding found_part
  part_inside place p = rw p.replied (within (script_refusal file handler) refl)
    where
      within : (answer : Option Refusal) → script_refusal file handler ≡ answer
          → (found_part file handler answer).offset + (found_part file handler answer).length ≤ length file
      within none is = let (sound, below) = found_there is in body_inside sound.table handler (omega (arith, below))
      within (some refusal) is = omega arith
