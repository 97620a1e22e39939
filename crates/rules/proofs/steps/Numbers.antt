-- Nothing is lost in the numbers of docs/RULES.md: each numbering is injective, an abort's with its cell. A numbering that can be read back
-- is, so for reasons and refusals the reading back is written down.
use Rattle.std.specs.Prelude.{if◌then◌else◌}
use Prim.Native.Nat.{ℕ}
use native.Mathlib.Omega.{arith}
use mathlib.Core.Path.{◌≡◌, refl, sym, ap, ◌∙◌}
use mathlib.Core.Option.{Option}
use lib.Dec.{eqb}
use Rattle.rules.specs.steps.Tables.{place_of}
use Rattle.rules.specs.steps.Replies.{Reason, torn, overtaken, spent, gave_up, unset, value, Outcome, ok, shows, committed}
use Rattle.rules.specs.steps.Replies.{aborted, Refusal, not_well_formed, no_handler, no_cell, already_open, not_open, unknown_step, out_of_range}
use Rattle.rules.specs.steps.Replies.{too_short, bad_file, used_up, too_many_commits, sheet_full, no_room, reason_number, reason_cell, refusal_number}
use Rattle.rules.specs.steps.Replies.{Numbers, outcome_numbers, refusal_numbers}

-- Different things have different images.
abbrev pub Injective : {A B : Type 0} → (A → B) → Type 0
Injective {A} number = (a b : A) → number a ≡ number b → a ≡ b

-- What can be read back is injective.
pub read_back : {A B : Type 0} (number : A → B) (back : B → A) → ((a : A) → back (number a) ≡ a) → Injective number
read_back number back same a b e = sym (same a) ∙ ap back e ∙ same b

-- What an abort's reason is told by: its number, and the cell that it names, if it names one.
pub record Named : Type 0 where
  pub number : ℕ
  pub cell : Option ℕ

-- The number and the cell of a reason.
abbrev pub named : Reason → Named
named reason = record { number = reason_number reason; cell = reason_cell reason }

-- The reason of a number and a cell.
reason_back : ℕ → ℕ → Reason
reason_back n y = if eqb n 1 then (torn y) else (if eqb n 2 then (overtaken y) else (if eqb n 3 then (spent y) else gave_up))

-- The refusal of a number.
refusal_back : ℕ → Refusal
refusal_back n =
    if eqb n 10 then not_well_formed else (if eqb n 11 then no_handler
    else (if eqb n 12 then no_cell else (if eqb n 13 then already_open
    else (if eqb n 14 then not_open else (if eqb n 15 then unknown_step
    else (if eqb n 20 then out_of_range else (if eqb n 21 then too_short
    else (if eqb n 30 then bad_file else (if eqb n 32 then used_up
    else (if eqb n 33 then too_many_commits else (if eqb n 41 then sheet_full
    else no_room)))))))))))

-- The outcome of an answer in numbers.
outcome_back : Numbers → Outcome ℕ
outcome_back n =
    if eqb n.kind 0 then ok else (if eqb n.kind 1 then (shows (value n.detail))
    else (if eqb n.kind 5 then (shows unset) else (if eqb n.kind 2 then committed else (aborted (reason_back n.detail n.cell)))))

-- A reason comes back from its number and its cell.
reason_back_lem : (reason : Reason) → reason_back (reason_number reason) (place_of (reason_cell reason)) ≡ reason
unfolding reason_back
reason_back_lem (torn y) = refl
reason_back_lem (overtaken y) = refl
reason_back_lem (spent y) = refl
reason_back_lem gave_up = refl

-- A refusal comes back from its number.
refusal_back_lem : (refusal : Refusal) → refusal_back (refusal_number refusal) ≡ refusal
unfolding refusal_back
refusal_back_lem not_well_formed = refl
refusal_back_lem no_handler = refl
refusal_back_lem no_cell = refl
refusal_back_lem already_open = refl
refusal_back_lem not_open = refl
refusal_back_lem unknown_step = refl
refusal_back_lem out_of_range = refl
refusal_back_lem too_short = refl
refusal_back_lem bad_file = refl
refusal_back_lem used_up = refl
refusal_back_lem too_many_commits = refl
refusal_back_lem sheet_full = refl
refusal_back_lem no_room = refl

-- An outcome comes back from its numbers.
outcome_back_lem : (outcome : Outcome ℕ) → outcome_back (outcome_numbers outcome) ≡ outcome
unfolding outcome_back
outcome_back_lem ok = refl
outcome_back_lem (shows (value v)) = refl
outcome_back_lem (shows unset) = refl
outcome_back_lem committed = refl
outcome_back_lem (aborted reason) = ap aborted (reason_back_lem reason)

-- No two reasons have the same number and the same cell.
pub reasons_apart : Injective named
reasons_apart = read_back named (λ n. reason_back n.number (place_of n.cell)) reason_back_lem

-- No two refusals have the same number.
pub refusals_apart : Injective refusal_number
refusals_apart = read_back refusal_number refusal_back refusal_back_lem

-- No two outcomes have the same kind, detail and cell.
pub outcomes_apart : Injective outcome_numbers
outcomes_apart = read_back outcome_numbers outcome_back outcome_back_lem

-- No outcome has the kind of a refusal.
pub outcome_no_refusal : (outcome : Outcome ℕ) (refusal : Refusal) → outcome_numbers outcome ≡ refusal_numbers refusal → ⊥
outcome_no_refusal ok refusal e = let kinds : ◌≡◌ {A = ℕ} 0 4 = ap (λ n. n.kind) e in omega arith
outcome_no_refusal (shows (value v)) refusal e = let kinds : ◌≡◌ {A = ℕ} 1 4 = ap (λ n. n.kind) e in omega arith
outcome_no_refusal (shows unset) refusal e = let kinds : ◌≡◌ {A = ℕ} 5 4 = ap (λ n. n.kind) e in omega arith
outcome_no_refusal committed refusal e = let kinds : ◌≡◌ {A = ℕ} 2 4 = ap (λ n. n.kind) e in omega arith
outcome_no_refusal (aborted reason) refusal e = let kinds : ◌≡◌ {A = ℕ} 3 4 = ap (λ n. n.kind) e in omega arith
