-- The admission of a file gives 30 and 15 exactly when docs/RULES.md says, and is sound exactly for a file that is run.
use Rattle.std.proofs.Common.{ℕ, ◌≡◌, ◌<◌, Bool, true, false, not, MatchBool, List, length, get_or, HoldsAt, ◌↔◌, ◌⊎◌, inl, inr}
use Rattle.std.proofs.Common.{refl, sym, subst, ◌∙◌, arith, zero-add}
use Rattle.std.proofs.Math.Option.{Option, none, some, some-ne-none}
use Rattle.std.specs.List.{AllWithin, range_with_len}
use Rattle.std.proofs.lemmas.List.FromFn.{length-range_with_len, get_or-range_with_len}
use borrow.Author.Tests.{not-true, not-false}
use Rattle.rules.specs.steps.Replies.{Refusal, bad_file, unknown_step}
use Rattle.rules.specs.steps.Checks.{first_hit}
use Rattle.rules.proofs.steps.Given.{exactly}
use Rattle.rules.proofs.steps.Tables.{by, both_ways, some_true}
use Rattle.layout.specs.WellFormed.{every_below}
use Rattle.layout.proofs.Tested.{every_iff}
use Rattle.limits.proofs.Ranges.{answers_no}
use Rattle.schedule.specs.Sound.{handlers_in, cells_in, script_in, SoundFile, is_sound_file}
use Rattle.schedule.specs.Scripts.{is_whole}
use Rattle.schedule.specs.Admitting.{Admission, refused, all_whole, file_checks, file_refusal, admitted, admission_of, GoodFile}
use Rattle.schedule.specs.Admitting.{FileGiven, unsound, spoilt, AdmissionPromise}
use Rattle.schedule.proofs.Sounds.{file_tested, sound_tested, not_sound_file}

-- Where one place fails the test, not every place passes it.
pub some_fails : (n : ℕ) (test : ℕ → Bool) (k : ℕ) → k < n → test k ≡ false → false ≡ every_below n test
some_fails n test k below fails = answers_no _ (λ e. both_ways ((every_iff n test).0 e k below) fails)

-- The place at a place of the row of places is itself.
place_there : (n k : ℕ) → k < n → get_or (range_with_len 0 n) k 0 ≡ k
place_there n k below = get_or-range_with_len 0 n k 0 below ∙ zero-add k

-- What `all` answers of a test over the places below n is whether every place passes it.
pub every_answer : (n : ℕ) (test : ℕ → Bool) (answer : Bool) → let places = range_with_len 0 n in
    MatchBool answer (AllWithin (λ k. test k ≡ true) places 0 (length places))
    ((k : ℕ) × (k < length places) × HoldsAt (λ k. test k ≡ false) places k) → answer ≡ every_below n test
every_answer n test true all = sym ((every_iff n test).1
    (λ k below. subst (λ place. test place ≡ true) (place_there n k below) (all k 0 (omega arith) (rw length-range_with_len below))))
every_answer n test false (k, inside, fails) =
    let below = rw length-range_with_len at inside in
    some_fails n test k below (subst (λ place. test place ≡ false) (place_there n k below) (fails 0))

-- Where not every place passes the test, one place fails it.
one_fails : (n : ℕ) (test : ℕ → Bool) → every_below n test ≡ false → (k : ℕ) × (k < n) × (test k ≡ false)
unfolding every_below
one_fails n test e =
    let (k, below, fails) = some_true n (λ y. not (test y)) (not-false _ e) in
    (k, below, not-true (test k) fails)

-- ── By its ways ───────────────────────────────────────────────────────

module _ {file : List ℕ} where
  -- A file that is not sound.
  pub admitted_bad : is_sound_file file ≡ false → AdmissionPromise file (refused bad_file)
  unfolding admission_of admitted file_refusal file_checks first_hit
  admitted_bad bad = record { replied = rw bad; left = refl }

  -- The refusal of a file that is not sound.
  pub admitted_unsound : {refusal : Refusal} → (¬ SoundFile file) × (refusal ≡ bad_file) → AdmissionPromise file (refused refusal)
  admitted_unsound (bad, is) = rw is (admitted_bad (sym (not_sound_file bad)))

  module _ (sound : SoundFile file) where
    -- A sound file with a script that is not whole.
    pub admitted_spoilt : all_whole file ≡ false → AdmissionPromise file (refused unknown_step)
    unfolding admission_of admitted file_refusal file_checks first_hit
    admitted_spoilt not_whole = record { replied = rw (sound_tested file sound, not_whole); left = refl }

    -- A sound file whose scripts are whole.
    pub admitted_sound : all_whole file ≡ true → AdmissionPromise file (Admission.sound (handlers_in file) (cells_in file))
    unfolding admission_of admitted file_refusal file_checks first_hit
    admitted_sound whole = record { replied = rw (sound_tested file sound, whole); left = refl }

-- ── Exactly then ──────────────────────────────────────────────────────

module _ (file : List ℕ) where
  -- The test of a script.
  abbrev whole_at : ℕ → Bool
  whole_at handler = is_whole (script_in file handler)

  -- The checks of a file give 30 and 15 exactly then, and no other number.
  pub file_exactly : (refusal : Refusal) → (file_refusal file ≡ some refusal) ↔ FileGiven file refusal
  unfolding file_refusal file_checks first_hit
  file_exactly = exactly (FileGiven file) hits decided
    where
      hits : (refusal : Refusal) → FileGiven file refusal → file_refusal file ≡ some refusal
      hits _ (unsound out) = rw (← not_sound_file out)
      hits _ (spoilt handler sound below fails) =
          rw ((file_tested file).1 sound, ← some_fails (handlers_in file) whole_at handler below fails)

      decided : ((refusal : Refusal) × FileGiven file refusal) ⊎ (file_refusal file ≡ none)
      decided = by (is_sound_file file)
          (λ sound. by (all_whole file)
          (λ whole. inr (rw (sound, whole)))
          (λ fails. let (handler, below, one) = one_fails (handlers_in file) whole_at fails in
          inl (unknown_step, spoilt handler ((file_tested file).0 sound) below one)))
          (λ bad. inl (bad_file, unsound (λ sound. both_ways ((file_tested file).1 sound) bad)))

  -- A file is let through exactly when it is sound and each of its scripts is whole.
  pub good_exactly : (file_refusal file ≡ none) ↔ GoodFile file
  unfolding file_refusal file_checks first_hit
  good_exactly = (to, from)
    where
      to : file_refusal file ≡ none → GoodFile file
      to passes = by (is_sound_file file)
          (λ sound. by (all_whole file)
          (λ whole. record { sound = (file_tested file).0 sound; whole = (every_iff (handlers_in file) whole_at).0 whole })
          (λ fails. absurd (some-ne-none unknown_step (sym (rw (sound, fails)) ∙ passes))))
          (λ bad. absurd (some-ne-none bad_file (sym (rw bad) ∙ passes)))

      from : GoodFile file → file_refusal file ≡ none
      from good = rw ((file_tested file).1 good.sound, (every_iff (handlers_in file) whole_at).1 good.whole)

-- An admission is a refusal just when the checks say that refusal.
refused_said : (file : List ℕ) (o : Option Refusal) (refusal : Refusal) → (admitted file o ≡ refused refusal) ↔ (o ≡ some refusal)
unfolding admitted
refused_said file none refusal = (
  λ e. absurd (let z : ◌≡◌ {A = ℕ} 0 1 = cc in omega arith),
  λ e. absurd (some-ne-none refusal (sym e)),
)
refused_said file (some other) refusal = (λ e. cc, λ e. cc)

-- A file is refused with each number exactly then.
pub admit_refused : {file : List ℕ} {reply : Admission} → AdmissionPromise file reply
    → (refusal : Refusal) → (reply ≡ refused refusal) ↔ FileGiven file refusal
unfolding admission_of
admit_refused {file} p refusal =
    let said = refused_said file (file_refusal file) refusal in
    let given = file_exactly file refusal in
    (λ e. given.0 (said.0 (sym p.replied ∙ e)), λ g. p.replied ∙ said.1 (given.1 g))
