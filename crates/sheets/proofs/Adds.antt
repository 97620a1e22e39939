-- Adding a file by its ways, and when it is refused with each number: exactly then.
use Prim.Native.Nat.{ℕ, ◌≤◌, ◌<◌}
use mathlib.Core.Path.{◌≡◌, refl, sym, ◌∙◌}
use mathlib.Core.Bool.{true, false}
use mathlib.Core.List.{List, [], ◌∷◌}
use mathlib.Core.Logic.{◌↔◌, ◌⊎◌, inl, inr}
use mathlib.Core.Option.{Option, none, some}
use lib.Dec.{ltb}
use lib.ListN.{length}
use borrow.Author.Tests.{lt-ltb, le-ltb, ltb-true, ltb-false}
use Rattle.rules.specs.steps.Replies.{Refusal, too_short, sheet_full}
use Rattle.rules.specs.steps.Checks.{◌when◌, first_hit}
use Rattle.rules.proofs.steps.Given.{exactly, hit_front, hit_behind}
use Rattle.rules.proofs.steps.Tables.{by, found}
use Rattle.schedule.specs.Admitting.{Admission, sound, file_checks, file_refusal, admission_of}
use Rattle.schedule.proofs.Admits.{file_exactly, good_exactly}
use Rattle.runs.specs.ByRules.{run_of}
use Rattle.sheets.specs.Sheets.{lines_of, sheet_long, with_lines, is_full, add_checks, add_refusal, AddCall, added_by, adding, AddPromise}
use Rattle.sheets.specs.Given.{AddGiven, short, bad, full}
use Rattle.sheets.proofs.Full.{full_at_lem, full_one}
use Rattle.sheets.proofs.Admitted.{admitted_free, refused_says}

-- ── What is said of a file ────────────────────────────────────────────

module _ (words file : List ℕ) where
  -- 21 where the words are too few,
  says_short : length words < sheet_long → add_refusal words file ≡ some too_short
  unfolding add_refusal add_checks first_hit
  says_short few = rw (lt-ltb (length words) sheet_long few)

  module _ (long : sheet_long ≤ length words) where
    -- then what the checks of the file say,
    says_bad : {refusal : Refusal} → file_refusal file ≡ some refusal → add_refusal words file ≡ some refusal
    unfolding add_refusal add_checks first_hit file_refusal
    says_bad e = rw (le-ltb (length words) sheet_long long) (hit_front (file_checks file) ((sheet_full when is_full words) ∷ []) e)

    module _ (free : file_refusal file ≡ none) where
      -- and then what the last check says:
      says_last : add_refusal words file ≡ first_hit ((sheet_full when is_full words) ∷ [])
      unfolding add_refusal add_checks first_hit file_refusal
      says_last = rw (le-ltb (length words) sheet_long long) (hit_behind (file_checks file) ((sheet_full when is_full words) ∷ []) free)

      -- 41 where the sheet is full,
      says_full : is_full words ≡ true → add_refusal words file ≡ some sheet_full
      unfolding first_hit
      says_full is = says_last ∙ rw is

      -- and else nothing.
      says_nothing : is_full words ≡ false → add_refusal words file ≡ none
      unfolding first_hit
      says_nothing is = says_last ∙ rw is

  -- ── By its ways ───────────────────────────────────────────────────────

  -- A file that is refused changes nothing.
  add_refused : {refusal : Refusal} → add_refusal words file ≡ some refusal → AddPromise words file (some refusal) words
  unfolding adding added_by
  add_refused is = record { replied = rw is; left = rw is }

  -- The words are too few.
  pub add_short : length words < sheet_long → AddPromise words file (some too_short) words
  add_short few = add_refused (says_short few)

  module _ (long : sheet_long ≤ length words) where
    -- The file is refused by its own checks.
    pub add_bad : {refusal : Refusal} → Admission.refused refusal ≡ admission_of file → AddPromise words file (some refusal) words
    add_bad is = add_refused (says_bad long (refused_says file is))

    module _ {n m : ℕ} (is : sound n m ≡ admission_of file) where
      -- The sheet is full.
      pub add_full : is_full words ≡ true → AddPromise words file (some sheet_full) words
      add_full filled = add_refused (says_full long (admitted_free file is) filled)

      -- The lines of its run are counted.
      pub add_counted : {after : List ℕ} → is_full words ≡ false → after ≡ with_lines words (lines_of (run_of file)) → AddPromise words file none after
      unfolding adding added_by
      add_counted room counted =
          let nothing = says_nothing long (admitted_free file is) room in
          record { replied = rw nothing; left = rw nothing counted }

-- ── Exactly then ──────────────────────────────────────────────────────

-- What adding a file replies is what its checks say.
reply_said : (call : AddCall) (said : Option Refusal) → (added_by call said).reply ≡ said
unfolding added_by
reply_said call none = refl
reply_said call (some refusal) = refl

-- Adding a file is refused with each number exactly then, and with no other.
pub add_exactly : (words file : List ℕ) (refusal : Refusal) → (add_refusal words file ≡ some refusal) ↔ AddGiven words file refusal
add_exactly words file = exactly (AddGiven words file) hits decided
  where
    hits : (refusal : Refusal) → AddGiven words file refusal → add_refusal words file ≡ some refusal
    hits too_short (short few) = says_short words file few
    hits refusal (bad long given) = says_bad words file long ((file_exactly file refusal).1 given)
    hits sheet_full (full place long good inside above) =
        says_full words file long ((good_exactly file).1 good) (sym (full_at_lem words place inside above))

    decided : ((refusal : Refusal) × AddGiven words file refusal) ⊎ (add_refusal words file ≡ none)
    decided = by (ltb (length words) sheet_long)
        (λ few. inl (too_short, short (ltb-true (length words) sheet_long few)))
        (λ enough. let long = ltb-false (length words) sheet_long enough in
        found (file_refusal file)
        (λ refusal e. inl (refusal, bad long ((file_exactly file refusal).0 e)))
        (λ free. by (is_full words)
        (λ is. let (place, inside, above) = full_one words is in inl (sheet_full, full place long ((good_exactly file).0 free) inside above))
        (λ room. inr (says_nothing words file long free room))))

-- So is whatever meets the promise of adding a file.
pub added_refused : {words file after : List ℕ} {reply : Option Refusal} → AddPromise words file reply after
    → (refusal : Refusal) → (reply ≡ some refusal) ↔ AddGiven words file refusal
unfolding adding
added_refused {words} {file} promise refusal =
    let given = add_exactly words file refusal in
    let said = promise.replied ∙ reply_said (record { words = words; file = file }) (add_refusal words file) in
    (λ e. given.0 (sym said ∙ e), λ g. said ∙ given.1 g)
