-- What the promises leave: as many words as before, every word beyond the register as it was, and a well-formed register that
-- says what the rules say.
use Prim.Native.Nat.{ℕ, ◌≤◌}
use mathlib.Core.Path.{◌≡◌, refl, sym, ap, ◌∙◌, subst}
use mathlib.Core.Bool.{true, false, not}
use mathlib.Core.List.{List, []}
use mathlib.Core.Logic.{◌⊎◌, inl, inr}
use mathlib.Core.Option.{Option, none, some}
use native.Mathlib.Omega.{arith}
use lib.Dec.{ltb}
use lib.ListN.{length, drop}
use borrow.Author.Tests.{ltb-false, not-false}
use Rattle.rules.specs.steps.Replies.{Refusal, Reply, ready}
use Rattle.rules.specs.steps.Register.{fresh}
use Rattle.rules.specs.steps.Checks.{first_hit, in_range, opening_checks}
use Rattle.rules.proofs.steps.Given.{none_holds, Verdict, verdict}
use Rattle.rules.proofs.steps.Turns.{given_turn, free_turn}
use Rattle.rules.proofs.steps.Confined.{Confined, step_confined, fresh_confined}
use Rattle.layout.specs.Places.{cells_of, handlers_of, size, body_of}
use Rattle.layout.specs.View.{word_setting, view, register_in}
use Rattle.layout.specs.WellFormed.{WellFormed}
use Rattle.layout.proofs.Tested.{tested}
use Rattle.layout.proofs.Holds.{register_length, register_beyond}
use Rattle.layout.proofs.ViewPour.{view_pour, view_confined}
use Rattle.layout.proofs.Kept.{Keeps, fresh_well_formed, step_kept}
use Rattle.promises.specs.Opening.{opening_refusal, opening_reply, opening_words, OpeningPromise}
use Rattle.promises.specs.Stepping.{asked_of, result_of, turn_of, step_words, StepPromise, Stopped, Taken}

module _ {words : List ℕ} {handler code value : ℕ} {reply : Reply ℕ} {after : List ℕ} (p : StepPromise words handler code value reply after) where
  -- A step is refused or taken.
  pub stopped_or_taken : Stopped words handler code value after ⊎ Taken words handler code value after
  unfolding turn_of step_words
  stopped_or_taken = ways (verdict (asked_of words handler code))
    where
      ways : Verdict (asked_of words handler code) → Stopped words handler code value after ⊎ Taken words handler code value after
      ways (inl (refusal, given)) =
          let turn = given_turn _ _ _ _ _ _ value refusal given in
          inl (record { refusal = refusal; turn = turn; unchanged = p.left ∙ rw turn })
      ways (inr (s, free)) =
          let turn = free_turn _ _ _ _ _ _ value s free in
          inr (record { what = s; free = free; turn = turn; holds = p.left ∙ rw turn })

  -- A well-formed register stays one, with as many cells, handlers and words.
  pub step_keeps : WellFormed words → Keeps words after
  step_keeps w = ways stopped_or_taken
    where
      ways : Stopped words handler code value after ⊎ Taken words handler code value after → Keeps words after
      ways (inl s) = rw s.unchanged (record { well_formed = w; cell_count = refl; handler_count = refl; size = refl })
      ways (inr t) = rw t.holds (step_kept words w handler t.free.fits.heard.handler t.what t.free.fits.cell value)

  -- The words say the register that the rules leave.
  pub step_says : view (cells_of words) (handlers_of words) (body_of after) ≡ (turn_of words handler code value).after
  step_says = ways stopped_or_taken
    where
      ways : Stopped words handler code value after ⊎ Taken words handler code value after
          → view (cells_of words) (handlers_of words) (body_of after) ≡ (turn_of words handler code value).after
      ways (inl s) = rw (s.unchanged, s.turn)
      ways (inr t) = rw (t.holds, t.turn) (view_pour _ _ _ _ confined)
        where
          confined : Confined (word_setting (cells_of words)) (handlers_of words) (result_of words handler t.what value).after
          confined = step_confined _ _ _ (view_confined _ _ (body_of words)) handler t.free.fits.heard.handler t.what t.free.fits.cell value

  -- As many words as before.
  pub step_size : length after ≡ length words
  step_size = ways stopped_or_taken
    where
      ways : Stopped words handler code value after ⊎ Taken words handler code value after → length after ≡ length words
      ways (inl s) = ap length s.unchanged
      ways (inr t) = (step_keeps ((tested words).0 t.free.fits.heard.well_formed)).size

  -- Words beyond the register's length are never changed.
  pub step_beyond : drop (size (cells_of words) (handlers_of words)) after ≡ drop (size (cells_of words) (handlers_of words)) words
  step_beyond = ways stopped_or_taken
    where
      ways : Stopped words handler code value after ⊎ Taken words handler code value after
          → drop (size (cells_of words) (handlers_of words)) after ≡ drop (size (cells_of words) (handlers_of words)) words
      ways (inl s) = rw s.unchanged
      ways (inr t) = rw t.holds (register_beyond (cells_of words) (handlers_of words) (result_of words handler t.what value).after words)

-- ── Opening ───────────────────────────────────────────────────────────

-- An opening that is replied to with ready passes its checks.
pub opening_passes : (o : Option Refusal) → opening_reply o ≡ ready → o ≡ none
unfolding opening_reply
opening_passes none e = refl
opening_passes (some refusal) e = absurd (let z : ◌≡◌ {A = ℕ} 0 1 = cc in omega arith)

-- Where the checks of an opening say nothing, m and n are in range, and there are as many words as are needed.
pub checks_passed : (m n long need : ℕ) → first_hit (opening_checks m n long need) ≡ none → (in_range m n ≡ true) × (need ≤ long)
unfolding opening_checks
checks_passed m n long need passes = (not-false (in_range m n) each.0, ltb-false long need each.1.0)
  where
    each : (not (in_range m n) ≡ false) × ((ltb long need ≡ false) × (◌≡◌ {A = Option Refusal} (first_hit []) none))
    each = simp none_holds at passes

-- An opening that is ready: m and n are in range, and a fresh register stands in front of the words.
pub record Ready (words : List ℕ) (m n : ℕ) (after : List ℕ) : Type 0 where
  pub well_formed : WellFormed after
  pub cell_count : cells_of after ≡ m
  pub handler_count : handlers_of after ≡ n
  pub says : view m n (body_of after) ≡ fresh (word_setting m)
  pub long : length after ≡ length words
  pub beyond : drop (size m n) after ≡ drop (size m n) words

-- The words with a fresh register in front, where m and n are in range and the words are long enough.
fresh_ready : (words : List ℕ) (m n : ℕ) → in_range m n ≡ true → size m n ≤ length words
    → Ready words m n (register_in words m n (fresh (word_setting m)))
fresh_ready words m n ranged fits = record {
  well_formed = fresh_well_formed m n words ranged;
  cell_count = refl;
  handler_count = refl;
  says = view_pour m n (fresh (word_setting m)) _ (fresh_confined (word_setting m) n);
  long = register_length m n (fresh (word_setting m)) words fits;
  beyond = register_beyond m n (fresh (word_setting m)) words;
}

-- What an opening that is ready leaves.
pub opening_ready : {words : List ℕ} {m n : ℕ} {after : List ℕ} → OpeningPromise words m n ready after → Ready words m n after
unfolding opening_words opening_refusal
opening_ready {words} {m} {n} {after} p =
    let passed = checks_passed m n (length words) (size m n) passes in
    subst (Ready words m n) (sym (p.left ∙ rw passes)) (fresh_ready words m n passed.0 passed.1)
  where
    passes : opening_refusal words m n ≡ none
    passes = opening_passes (opening_refusal words m n) (sym p.replied)
