-- Cases of words: whatever words were opened for two cells and four handlers, after the steps of a case handler 0's read gets the
-- reply that the case says, and by the third demand of words it tears or it does not.
use Prim.Native.Nat.{ℕ, ◌+◌}
use mathlib.Core.Path.{◌≡◌, sym, ap, ◌∙◌}
use mathlib.Core.List.{List}
use Rattle.rules.specs.steps.Replies.{torn, Content, value, Outcome, shows, aborted, Reply}
use Rattle.rules.specs.history.History.{History, writer}
use Rattle.rules.specs.history.Past.{Tears}
use Rattle.rules.specs.demand.Demand.{Ask, reported_to, FirstRead}
use Rattle.rules.proofs.steps.Properties.{shows_no_abort}
use Rattle.rules.proofs.demand.ExactAborts.{outcome_in}
use Rattle.rules.proofs.demand.CaseHistories.{reached, Answered}
use Rattle.rules.proofs.demand.CasesComputed.{k8, k8_answered, k10, k10_answered}
use Rattle.rules.proofs.demand.CasesDemanded.{first_read_lem}
use Rattle.rules.specs.steps.Tables.{LowestOf}
use Rattle.rules.proofs.demand.TornAtAll.{torn_at_all}
use Rattle.layout.specs.View.{word_setting}
use Rattle.promises.specs.Stepping.{StepPromise}
use Rattle.promises.specs.Runs.{WordRun}
use Rattle.promises.proofs.Runs.{rules_reply, run_follows}
use Rattle.promises.proofs.Inherits.{words_inherit}

-- The writer of cell x, or a commit in its past, wrote a later version of a cell than handler i has read.
abbrev pub TearsFor : History ℕ → ℕ → ℕ → ℕ → Type 0
TearsFor h i x = Tears h.commits (h.now i) (writer h.commits x)

module _ {steps : List (Ask ℕ)} {x : ℕ} {words after : List ℕ} {h : History ℕ} {reply : Reply ℕ}
    (ran : WordRun 2 4 steps words h) (p : StepPromise words 0 (32 + x) 0 reply after) where
  -- The reply is the one that the case says.
  case_replied : {outcome : Outcome ℕ} → Answered steps x outcome → reply ≡ reported_to 0 (32 + x) outcome
  case_replied answered = rules_reply (run_follows ran) p ∙ rw (run_follows ran).says (unfold reached in answered.reply)

  -- The read is a first read.
  case_first : {outcome : Outcome ℕ} → Answered steps x outcome → FirstRead (word_setting 2) 4 h 0 (32 + x) x
  case_first answered = rw (run_follows ran).history (unfold reached in (first_read_lem steps x answered.first))

  -- A read that is answered abort 1 tears, at the cell named and at none below it,
  case_torn : {y : ℕ} → Answered steps x (aborted (torn y))
      → (reply ≡ reported_to 0 (32 + x) (aborted (torn y))) × LowestOf (TearsFor h 0 x) y
  case_torn {y} answered =
      let replied = case_replied answered in
      (replied, ((words_inherit 2 4 steps words h ran).torn_exactly y (case_first answered) p).0 replied)

  -- and one that shows something tears nowhere.
  case_shown : {v : Content ℕ} → Answered steps x (shows v)
      → (reply ≡ reported_to 0 (32 + x) (shows v)) × ((y : ℕ) → TearsFor h 0 x y → ⊥)
  case_shown {v} answered = (case_replied answered, whole)
    where
      whole : (y : ℕ) → TearsFor h 0 x y → ⊥
      whole y tears =
          let abort = (torn_at_all h.commits (h.now 0) (writer h.commits x) (λ z. reply ≡ reported_to 0 (32 + x) (aborted (torn z)))
          (λ z. (words_inherit 2 4 steps words h ran).torn_exactly z (case_first answered) p)).1 (y, tears) in
          shows_no_abort v (torn abort.0) (ap outcome_in (sym (case_replied answered) ∙ abort.1))

module _ {words after : List ℕ} {h : History ℕ} {reply : Reply ℕ} where
  -- K8 of words: abort 1 and cell 0, and it tears there.
  pub k8_of_words : WordRun 2 4 k8 words h → StepPromise words 0 33 0 reply after
      → (reply ≡ reported_to 0 33 (aborted (torn 0))) × LowestOf (TearsFor h 0 1) 0
  k8_of_words ran p = case_torn ran p k8_answered

  -- K10 of words: the value 6, and nothing tears.
  pub k10_of_words : WordRun 2 4 k10 words h → StepPromise words 0 33 0 reply after
      → (reply ≡ reported_to 0 33 (shows (value 6))) × ((y : ℕ) → TearsFor h 0 1 y → ⊥)
  k10_of_words ran p = case_shown ran p k10_answered
