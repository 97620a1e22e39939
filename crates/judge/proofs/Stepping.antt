-- The judge's step by its ways: no ledger, refused by a check, or passed.
use Rattle.std.proofs.Common.{Result, ℕ, ◌≡◌, refl, sym, ap, ap₂, ◌∙◌, Bool, true, false, List}
use mathlib.Core.Option.{Option, none, some}
use Rattle.rules.specs.steps.Codes.{Step, Kind, known, plain_sheet}
use Rattle.rules.specs.steps.Replies.{Refusal, not_well_formed, Reply}
use Rattle.rules.specs.steps.Checks.{asking, first_hit, step_checks}
use Rattle.rules.specs.demand.Demand.{reported_to}
use Rattle.rules.specs.demand.Judge.{asked_by_history, judgement}
use Rattle.rules.proofs.steps.Given.{given_exactly, free_exactly}
use Rattle.rules.proofs.demand.Judged.{judged_refused, judged_free}
use Rattle.layout.specs.Places.{cells_of, handlers_of}
use Rattle.layout.specs.View.{word_setting}
use Rattle.checks.specs.Promises.{verdict}
use Rattle.checks.proofs.OneStep.{of_kind, for_kind}
use Rattle.ledger.specs.Entries.{commits_noted, Ledger, is_ledger}
use Rattle.ledger.specs.Histories.{history_in}
use Rattle.ledger.specs.Noting.{note_words}
use Rattle.ledger.specs.Promises.{limited, judged_reply, JudgedPromise}
use Rattle.ledger.proofs.Steps.{limited_other, refusal_unnoted, reply_limited}
use Rattle.judge.specs.Taking.{answer_of, JudgeReady, Passes}

module _ (words : List ℕ) (handler code : ℕ) where
  -- What the checks say of a step by the history.
  abbrev pub says : Option Refusal
  says = first_hit (step_checks (asked_by_history (word_setting (cells_of words)) (handlers_of words) (history_in words) handler code))

  -- They are asked for the kind of the code and for the handler's phase.
  pub asked_plainly : {kind : Kind} {opened : Bool} {answer : Result Step Refusal} → kind ≡ plain_sheet code
      → opened ≡ (history_in words).opened handler
      → answer ≡ verdict (first_hit (step_checks (asking true (cells_of words) (handlers_of words) handler kind opened))) kind
      → answer ≡ verdict says (plain_sheet code)
  asked_plainly kind opened told =
      told ∙ ap₂ (λ k o. verdict (first_hit (step_checks (asking true (cells_of words) (handlers_of words) handler k o))) k) kind opened

module _ (words : List ℕ) (handler code value : ℕ) where
  -- Words that are no ledger: 10.
  pub step_malformed : is_ledger words ≡ false → JudgedPromise words handler code value (Reply.refused not_well_formed) words
  step_malformed e = record {
    replied = sym refused;
    left = sym (ap (note_words words handler (plain_sheet code) value) refused
        ∙ refusal_unnoted words handler (plain_sheet code) value not_well_formed);
  }
    where
      refused : judged_reply words handler code ≡ Reply.refused not_well_formed
      refused = unfold judged_reply in (rw e)

  module _ (ledger : Ledger words) where
    -- What the history tells is the reply, within the limit.
    promised : {reply : Reply ℕ} {after : List ℕ} (told : Reply ℕ)
        → judgement (word_setting (cells_of words)) (handlers_of words) (history_in words) handler code ≡ told
        → reply ≡ limited (commits_noted words) told
        → after ≡ note_words words handler (plain_sheet code) value (limited (commits_noted words) told)
        → JudgedPromise words handler code value reply after
    promised told e replied left =
        let same = reply_limited ledger handler code ∙ ap (limited (commits_noted words)) e in
        record { replied = replied ∙ sym same; left = left ∙ ap (note_words words handler (plain_sheet code) value) (sym same) }

    -- What the checks refuse is refused.
    pub step_stops : (refusal : Refusal) → says words handler code ≡ some refusal → JudgedPromise words handler code value (Reply.refused refusal) words
    step_stops refusal e = promised (Reply.refused refusal) (judged_refused _ _ _ _ _ refusal ((given_exactly _ refusal).0 e)) (sym within)
        (sym (ap (note_words words handler (plain_sheet code) value) within ∙ refusal_unnoted words handler (plain_sheet code) value refusal))
      where
        within : limited (commits_noted words) (Reply.refused refusal) ≡ Reply.refused refusal
        within = limited_other (commits_noted words) (Reply.refused refusal) refl

    module _ (e : says words handler code ≡ none) {step : Step} (asks : plain_sheet code ≡ known step) where
      -- The step that they let through is ready,
      pub step_ready : JudgeReady words (cells_of words) handler step
      step_ready =
          let (s, free) = (free_exactly _).0 e in
          of_kind (JudgeReady words (cells_of words) handler) (
            s,
            free.fits.heard.known,
            record {
              ledger = ledger;
              cells = refl;
              handler = free.fits.heard.handler;
              cell = free.fits.cell;
              phase = free.phase;
            },
          ) step asks

      -- and passed.
      pub step_passes : {reply : Reply ℕ} {after : List ℕ} → Passes words handler code step value reply after
          → JudgedPromise words handler code value reply after
      step_passes {reply} {after} passed =
          let (s, free) = (free_exactly _).0 e in
          let itself = for_kind (λ t. Passes words handler code t value reply after) step asks passed s free.fits.heard.known in
          let told : Reply ℕ = reported_to handler code (answer_of words handler s) in
          promised told (judged_free _ _ _ _ _ s free) itself.replied
          (itself.left ∙ ap (λ kind. note_words words handler kind value (limited (commits_noted words) told)) (sym free.fits.heard.known))
