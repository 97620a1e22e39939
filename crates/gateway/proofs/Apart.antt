-- Nothing of an answer is lost in its number: a length, the answer to an opening, to a step, to a file for a sheet and to a row can each be
-- told from it.
use Prim.Native.Nat.{ℕ, ◌+◌, ◌*◌, ◌/◌, ◌%◌, ◌^◌, ◌≤◌, ◌<◌}
use native.Mathlib.Omega.{arith}
use mathlib.Core.Path.{◌≡◌, refl, sym, ap, ◌∙◌}
use mathlib.Core.Option.{none, some}
use lib.Dec.{eqb}
use borrow.Author.Tests.{eqb-true, eqb-false}
use Rattle.rules.specs.steps.Tables.{place_of}
use Rattle.rules.specs.steps.Replies.{Reason, torn, overtaken, spent, gave_up, unset, value, Outcome, ok, shows, committed, aborted, Refusal, Reply, reported}
use Rattle.rules.specs.steps.Replies.{Opening, ready, not_well_formed, no_handler, no_cell, already_open, not_open, unknown_step, out_of_range, too_short}
use Rattle.rules.specs.steps.Replies.{bad_file, used_up, too_many_commits, sheet_full, no_room}
use Rattle.rules.specs.steps.Replies.{Numbers, reason_number, reason_cell, refusal_number, outcome_numbers, refusal_numbers, reply_numbers}
use Rattle.rules.specs.demand.Demand.{reported_to}
use Rattle.rules.specs.steps.Checks.{in_range}
use Rattle.rules.proofs.steps.Tables.{by}
use Rattle.rules.proofs.steps.Numbers.{Injective, refusals_apart, outcomes_apart, outcome_no_refusal}
use Rattle.layout.specs.Places.{size}
use Rattle.promises.specs.Lengths.{length_for}
use Rattle.gateway.specs.Packed.{length_number, opening_number, packed, refused_number}

-- ── Kind, cell and detail ─────────────────────────────────────────────

-- Cell and detail fit a word together; only an abort names a cell, and there each fits its half of the word.
pub record FitsWord (n : Numbers) : Type 0 where
  pub word : n.cell * 65536 + n.detail < 2 ^ 32
  pub alone : (n.kind ≡ 3 → ⊥) → n.cell ≡ 0
  pub half : n.kind ≡ 3 → n.detail < 65536

-- Numbers that fit can be told from the one number.
pub packed_apart : (a b : Numbers) → FitsWord a → FitsWord b → packed a ≡ packed b → a ≡ b
unfolding packed
packed_apart a b small other e = λ t. record { kind = kinds t; detail = details t; cell = cells t }
  where
    kinds : a.kind ≡ b.kind
    kinds = omega (arith, small.word, other.word, e)

    cells : a.cell ≡ b.cell
    cells = by (eqb a.kind 3)
        (λ q. let three = eqb-true a.kind 3 q in
        omega (arith, small.half three, other.half (sym kinds ∙ three), small.word, other.word, kinds, e))
        (λ q. let apart = eqb-false a.kind 3 q in
        small.alone apart ∙ sym (other.alone (λ three. apart (kinds ∙ three))))

    details : a.detail ≡ b.detail
    details = omega (arith, kinds, cells, e)

-- The halves of an abort's word, as the header takes them apart.
pub abort_halves : (reason : Reason) → place_of (reason_cell reason) < 65536
    → let number = packed (outcome_numbers (aborted reason)) in
    (number / 2 ^ 32 ≡ 3) × ((number % 2 ^ 32) / 65536 ≡ place_of (reason_cell reason)) × ((number % 2 ^ 32) % 65536 ≡ reason_number reason)
unfolding packed
abort_halves (torn y) small = (omega (arith, small), omega (arith, small), omega (arith, small))
abort_halves (overtaken z) small = (omega (arith, small), omega (arith, small), omega (arith, small))
abort_halves (spent z) small = (omega (arith, small), omega (arith, small), omega (arith, small))
abort_halves gave_up small = (omega arith, omega arith, omega arith)

-- No kind is more than that of what is unset.
pub kind_small : (reply : Reply ℕ) → (reply_numbers reply).kind ≤ 5
kind_small (reported report) = small report.outcome
  where
    small : (outcome : Outcome ℕ) → (outcome_numbers outcome).kind ≤ 5
    small ok = omega arith
    small (shows unset) = omega arith
    small (shows (value v)) = omega arith
    small committed = omega arith
    small (aborted reason) = omega arith
kind_small (Reply.refused refusal) = omega arith

-- ── A step ────────────────────────────────────────────────────────────

-- A value that fits a word, and a cell that fits half of one.
abbrev Fits : Outcome ℕ → Type 0
Fits ok = Unit {0}
Fits (shows unset) = Unit {0}
Fits (shows (value v)) = v < 2 ^ 32
Fits committed = Unit {0}
Fits (aborted reason) = place_of (reason_cell reason) < 65536

-- What a handler that asked by a code can be answered: an outcome reported to it, or a refusal.
pub data AnswerTo (handler code : ℕ) : Reply ℕ → Type 0 where
  came : (outcome : Outcome ℕ) → Fits outcome → AnswerTo handler code (reported_to handler code outcome)
  stopped : (refusal : Refusal) → AnswerTo handler code (Reply.refused refusal)

-- Where no cell is named, a detail that fits a word fits.
no_cell_fits : (kind detail : ℕ) → (kind ≡ 3 → ⊥) → detail < 2 ^ 32 → FitsWord (record { kind = kind; detail = detail; cell = 0 })
no_cell_fits kind detail apart fits = record { word = omega (arith, fits); alone = λ _. refl; half = λ e. absurd (apart e) }

-- An abort's cell and its number each fit half a word.
abort_fits : (reason : Reason) → place_of (reason_cell reason) < 65536 → FitsWord (outcome_numbers (aborted reason))
abort_fits reason fits =
    let small : reason_number reason < 10 = reason_small reason in
    record { word = omega (arith, fits, small); alone = λ apart. absurd (apart refl); half = λ _. omega (arith, small) }
  where
    reason_small : (reason : Reason) → reason_number reason < 10
    reason_small (torn y) = omega arith
    reason_small (overtaken z) = omega arith
    reason_small (spent z) = omega arith
    reason_small gave_up = omega arith

-- The numbers of an outcome fit,
outcome_small : (outcome : Outcome ℕ) → Fits outcome → FitsWord (outcome_numbers outcome)
outcome_small ok fits = no_cell_fits 0 0 (λ e. absurd (omega (arith, e))) (omega arith)
outcome_small (shows unset) fits = no_cell_fits 5 0 (λ e. absurd (omega (arith, e))) (omega arith)
outcome_small (shows (value v)) fits = no_cell_fits 1 v (λ e. absurd (omega (arith, e))) fits
outcome_small committed fits = no_cell_fits 2 0 (λ e. absurd (omega (arith, e))) (omega arith)
outcome_small (aborted reason) fits = abort_fits reason fits

-- A refusal's number fits a word, and is not 0.
refusal_between : (refusal : Refusal) → (0 < refusal_number refusal) × (refusal_number refusal < 2 ^ 32)
refusal_between not_well_formed = omega arith
refusal_between no_handler = omega arith
refusal_between no_cell = omega arith
refusal_between already_open = omega arith
refusal_between not_open = omega arith
refusal_between unknown_step = omega arith
refusal_between out_of_range = omega arith
refusal_between too_short = omega arith
refusal_between bad_file = omega arith
refusal_between used_up = omega arith
refusal_between too_many_commits = omega arith
refusal_between sheet_full = omega arith
refusal_between no_room = omega arith

-- So do those of a refusal.
refusal_small : (refusal : Refusal) → FitsWord (refusal_numbers refusal)
refusal_small refusal = no_cell_fits 4 (refusal_number refusal) (λ e. absurd (omega (arith, e))) (refusal_between refusal).1

-- What was answered can be told from the number.
pub step_told : {handler code : ℕ} {a b : Reply ℕ} → AnswerTo handler code a → AnswerTo handler code b
    → packed (reply_numbers a) ≡ packed (reply_numbers b) → a ≡ b
step_told {handler} {code} (came a fits) (came b fits_too) e =
    ap (reported_to handler code)
    (outcomes_apart a b (packed_apart (outcome_numbers a) (outcome_numbers b) (outcome_small a fits) (outcome_small b fits_too) e))
step_told (came a fits) (stopped b) e =
    absurd (outcome_no_refusal a b (packed_apart (outcome_numbers a) (refusal_numbers b) (outcome_small a fits) (refusal_small b) e))
step_told (stopped a) (came b fits) e =
    absurd (outcome_no_refusal b a (packed_apart (outcome_numbers b) (refusal_numbers a) (outcome_small b fits) (refusal_small a) (sym e)))
step_told (stopped a) (stopped b) e =
    let same = packed_apart (refusal_numbers a) (refusal_numbers b) (refusal_small a) (refusal_small b) e in
    ap Reply.refused (refusals_apart a b (ap (λ n. n.detail) same))

-- ── An opening, a length, a sheet, and a row ──────────────────────────

-- What an opening was answered can be told from its number.
pub opening_told : Injective opening_number
opening_told ready ready e = refl
opening_told ready (Opening.refused b) e = absurd (omega (arith, e, (refusal_between b).0))
opening_told (Opening.refused a) ready e = absurd (omega (arith, e, (refusal_between a).0))
opening_told (Opening.refused a) (Opening.refused b) e = ap Opening.refused (refusals_apart a b e)

-- A length of 0 says that there is none.
pub length_told : (m n : ℕ) → length_number (length_for m n) ≡ 0 → length_for m n ≡ none
unfolding length_for
length_told m n e = by (in_range m n)
    (λ inside. let long : size m n ≡ 0 = rw inside at e in absurd (omega (arith, long)))
    (λ outside. rw outside)

-- What was answered to a file for a sheet, or to a row, can be told from its number.
pub refused_told : Injective refused_number
refused_told none none e = refl
refused_told none (some b) e = absurd (omega (arith, e, (refusal_between b).0))
refused_told (some a) none e = absurd (omega (arith, e, (refusal_between a).0))
refused_told (some a) (some b) e = ap some (refusals_apart a b e)
