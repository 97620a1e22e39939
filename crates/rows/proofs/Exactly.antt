-- A row is refused with each number exactly when Given.antt says, and then nothing is changed; and all that is known of a row that is not.
use Rattle.std.proofs.Common.{ℕ, ◌+◌, ◌≤◌, ◌≡◌, refl, sym, ap, ◌∙◌, false, List, ◌↔◌, ◌⊎◌, inl, inr, ltb, length, lt-ltb, le-ltb, ltb-true, ltb-false}
use Rattle.std.proofs.Math.Option.{Option, none, some}
use Rattle.std.proofs.lemmas.Bool.{not-false}
use Rattle.rules.specs.steps.Replies.{Refusal, not_well_formed, no_room}
use Rattle.rules.specs.steps.Checks.{first_hit}
use Rattle.rules.proofs.steps.Given.{exactly, none_holds}
use Rattle.rules.proofs.steps.Tables.{by, both_ways}
use Rattle.layout.specs.Rows.{splice}
use Rattle.layout.specs.WellFormed.{WellFormed, is_well_formed}
use Rattle.layout.proofs.Tested.{tested}
use Rattle.rows.specs.Rows.{steps_in, words_after, reports_of, RowCall, Lent, reports_long, row_checks, rowed_by, rowing, RowPromise}
use Rattle.rows.specs.Given.{RowGiven, malformed, short}

-- ── Exactly then ──────────────────────────────────────────────────────

-- What the checks of a row say.
abbrev said_of : RowCall → Option Refusal
said_of call = first_hit (row_checks call)

-- How far the reports of a row go.
abbrev end_of : RowCall → ℕ
end_of call = call.place + reports_long (steps_in call.steps)

-- A row of a register with room for its reports is not refused.
row_free : (call : RowCall) → WellFormed call.words → end_of call ≤ length call.reports → said_of call ≡ none
unfolding row_checks first_hit
row_free call formed fits = rw ((tested call.words).1 formed, le-ltb (length call.reports) (end_of call) fits)

-- A row that is not refused has a register, and room for its reports.
free_row : (call : RowCall) → said_of call ≡ none → WellFormed call.words × (end_of call ≤ length call.reports)
unfolding row_checks
free_row call free =
    let (formed, (enough, _)) = simp none_holds at free in
    ((tested call.words).0 (not-false (is_well_formed call.words) formed), ltb-false (length call.reports) (end_of call) enough)

-- The checks of a row give each number exactly then.
row_exactly : (call : RowCall) (refusal : Refusal) → (said_of call ≡ some refusal) ↔ RowGiven call refusal
row_exactly call = exactly (RowGiven call) hits decided
  where
    not_formed : (WellFormed call.words → ⊥) → is_well_formed call.words ≡ false
    not_formed bad = by (is_well_formed call.words) (λ e. absurd (bad ((tested call.words).0 e))) (λ e. e)

    hits : (refusal : Refusal) → RowGiven call refusal → said_of call ≡ some refusal
    hits _ (malformed bad) = unfold row_checks first_hit in (rw (not_formed bad))
    hits _ (short formed few) =
        unfold row_checks first_hit in (rw ((tested call.words).1 formed, lt-ltb (length call.reports) (end_of call) few))

    decided : ((refusal : Refusal) × RowGiven call refusal) ⊎ (said_of call ≡ none)
    decided = by (is_well_formed call.words)
        (λ e. let formed = (tested call.words).0 e in
        by (ltb (length call.reports) (end_of call))
        (λ few. inl (no_room, short formed (ltb-true (length call.reports) (end_of call) few)))
        (λ enough. inr (row_free call formed (ltb-false (length call.reports) (end_of call) enough))))
        (λ e. inl (not_well_formed, malformed (λ formed. both_ways ((tested call.words).1 formed) e)))

-- What a row replies is what its checks say.
reply_said : (call : RowCall) → (rowing call).reply ≡ said_of call
unfolding rowing rowed_by
reply_said call = said (said_of call)
  where
    said : (o : Option Refusal) → (rowed_by call o).reply ≡ o
    said none = refl
    said (some refusal) = refl

-- A row is refused with each number exactly then.
pub row_refused : (call : RowCall) (refusal : Refusal) → ((rowing call).reply ≡ some refusal) ↔ RowGiven call refusal
row_refused call refusal =
    let given = row_exactly call refusal in
    (λ e. given.0 (sym (reply_said call) ∙ e), λ g. reply_said call ∙ given.1 g)

-- ── By what it replies ────────────────────────────────────────────────

-- All that is known of a row that is not refused.
pub record DoneRow (words steps reports : List ℕ) (place : ℕ) (after told : List ℕ) : Type 0 where
  pub formed : WellFormed words
  pub room : place + reports_long (steps_in steps) ≤ length reports
  pub left : after ≡ words_after words (steps_in steps)
  pub said : told ≡ splice place (reports_long (steps_in steps)) (reports_of words (steps_in steps)) reports

-- What a row is given.
abbrev given_row : List ℕ → List ℕ → List ℕ → ℕ → RowCall
given_row words steps reports place = record { words = words; steps = steps; reports = reports; place = place }

module _ {words steps reports : List ℕ} {place : ℕ} {reply : Option Refusal} {after told : List ℕ}
    (promise : RowPromise words steps reports place reply after told) where
  -- What the checks say is the reply,
  says_reply : said_of (given_row words steps reports place) ≡ reply
  says_reply = sym (reply_said (given_row words steps reports place)) ∙ sym promise.replied

  -- and what is left is left for that reply.
  reply_leaves : ◌≡◌ {A = Lent} (record { words = after; reports = told }) (rowed_by (given_row words steps reports place) reply).leaves
  unfolding rowing
  reply_leaves = promise.left ∙ ap (λ o. (rowed_by (given_row words steps reports place) o).leaves) says_reply

  -- A register with room for the reports is not refused.
  pub row_passes : WellFormed words → place + reports_long (steps_in steps) ≤ length reports → reply ≡ none
  row_passes formed fits = sym says_reply ∙ row_free (given_row words steps reports place) formed fits

-- A refused row changes nothing, of the register and of the words for reports.
pub refused_changes_nothing : {words steps reports : List ℕ} {place : ℕ} {refusal : Refusal} {after told : List ℕ}
    → RowPromise words steps reports place (some refusal) after told → (after ≡ words) × (told ≡ reports)
unfolding rowed_by
refused_changes_nothing promise = (ap (λ lent. lent.words) (reply_leaves promise), ap (λ lent. lent.reports) (reply_leaves promise))

-- So much is known wherever the promise is kept and the row is not refused.
pub row_known : {words steps reports : List ℕ} {place : ℕ} {after told : List ℕ}
    → RowPromise words steps reports place none after told → DoneRow words steps reports place after told
unfolding rowed_by
row_known {words} {steps} {reports} {place} promise =
    let passed = free_row (given_row words steps reports place) (says_reply promise) in
    record {
      formed = passed.0;
      room = passed.1;
      left = ap (λ lent. lent.words) (reply_leaves promise);
      said = ap (λ lent. lent.reports) (reply_leaves promise);
    }
