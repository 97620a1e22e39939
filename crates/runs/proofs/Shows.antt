-- What a place shows and leaves, by what comes next there, whoever answers its steps.
use Rattle.std.proofs.Common.{ℕ, ◌≡◌, refl, sym, ap, ◌∙◌, subst, List, ◌⊎◌, inl, inr, Result}
use Rattle.std.proofs.Math.Option.{some}
use Rattle.rules.specs.steps.Replies as Rules
use Rattle.replies.specs.declared.Report.{Report}
use Rattle.replies.specs.declared.Refusal.{Refusal}
use Rattle.replies.specs.Meaning.{refusal_is, reply_is}
use Rattle.schedule.specs.declared.Next.{Next}
use Rattle.schedule.specs.Meaning.{next_is}
use Rattle.schedule.specs.Taking as Taking
use Rattle.schedule.specs.Taking.{Cursors, rejected, over, refused, taken, NextPromise}
use Rattle.lines.specs.declared.Shown.{Shown}
use Rattle.lines.specs.declared.Shown.TheVariants.{Nothing, NoStep, Asked}
use Rattle.lines.specs.Lines.{step_line, line_is}
use Rattle.runs.specs.Players.{Player, PlayerStepPromise}
use Rattle.runs.specs.ByPlaces.{line_for, words_for, NextShown, PlacePromise}

module _ {player : Player} {words : List ℕ} where
  -- What is shown of what comes next is shown by any name of it.
  pub shown_as : {next known : Next} {shown : Shown} {after : List ℕ} → next ≡ known
      → NextShown player words (next_is known) shown after → NextShown player words (next_is next) shown after
  shown_as {shown = shown} {after} is = subst (λ next. NextShown player words (next_is next) shown after) (sym is)

  -- A file that is refused shows nothing,
  rejected_shown : {refusal : Rules.Refusal} → NextShown player words (rejected refusal) Nothing words
  unfolding line_for words_for
  rejected_shown = record { line = λ place. refl; left = refl }

  -- nor does a place beyond the order,
  over_shown : NextShown player words over Nothing words
  unfolding line_for words_for
  over_shown = record { line = λ place. refl; left = refl }

  -- so either shows nothing;
  pub nothing_shown : {next : Next} → ((refusal : Refusal) × (next ≡ Next.Rejected refusal)) ⊎ (next ≡ Next.Over)
      → NextShown player words (next_is next) Nothing words
  nothing_shown (inl (refusal, is)) = shown_as is rejected_shown
  nothing_shown (inr is) = shown_as is over_shown

  -- a refusal shows itself,
  pub refused_shown : {handler : ℕ} {refusal : Refusal} → NextShown player words (refused handler (refusal_is refusal)) (NoStep handler refusal) words
  unfolding line_for words_for
  refused_shown = record { line = λ place. refl; left = refl }

  -- and a step that is asked shows the reply to it.
  pub asked_shown : {handler code value : ℕ} {answer : Result Report Refusal} {after : List ℕ}
      → PlayerStepPromise player words handler code value (reply_is answer) after
      → NextShown player words (taken handler (record { code = code; value = value })) (Asked handler code answer) after
  unfolding line_for words_for
  asked_shown {handler} {code} promise = record {
    line = λ place. ap (λ reply. some (step_line place handler code reply)) promise.replied;
    left = promise.left;
  }

  -- A place shows what comes next there.
  pub place_shows : {file after : List ℕ} {cursors used : Cursors} {place : ℕ} {next : Taking.Next} {shown : Shown}
      → NextPromise file cursors place next used → NextShown player words next shown after
      → PlacePromise player file cursors place words (line_is place shown) used after
  place_shows {place = place} promise next = record {
    replied = next.line place ∙ ap (line_for player words place) promise.replied;
    left = λ i. record { cursors = promise.left i; words = (next.left ∙ ap (words_for player words) promise.replied) i };
  }
