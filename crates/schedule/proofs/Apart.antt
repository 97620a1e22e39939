-- Nothing is lost in what the answers mean: different answers are different admissions, refusals and steps. Each can be read back.
use Rattle.std.proofs.Common.{ℕ, ◌≡◌, refl, ap, List, Result, Ok, Err}
use Rattle.std.proofs.Math.Option.{Option, none, some}
use Rattle.rules.specs.steps.Replies as Rules
use Rattle.rules.proofs.Determined.{Determined, determined, one_outcome}
use Rattle.rules.proofs.steps.Numbers.{Injective, read_back}
use Rattle.replies.proofs.Apart.{refusal_back, refusal_same}
use Rattle.replies.specs.declared.Refusal.{Refusal}
use Rattle.schedule.specs.Admitting as Admitting
use Rattle.schedule.specs.Finding.{PartPromise, ScriptPromise}
use Rattle.schedule.specs.Taking as Taking
use Rattle.schedule.specs.declared.Sizes.{Sizes}
use Rattle.schedule.specs.declared.Part.{Part}
use Rattle.schedule.specs.declared.Cursors.{Cursors}
use Rattle.schedule.specs.declared.Next.{Next}
use Rattle.schedule.specs.declared.Next.TheVariants.{Over, Refused, Taken}
use Rattle.schedule.specs.Meaning.{admission_is, found_is, next_is}

admitted_back : Admitting.Admission → Result Sizes Refusal
admitted_back (Admitting.sound n m) = Ok (record { handlers = n; cells = m })
admitted_back (Admitting.Admission.refused refusal) = Err (refusal_back refusal)

found_back : Option Rules.Refusal → Result Unit Refusal
found_back none = Ok tt
found_back (some refusal) = Err (refusal_back refusal)

next_back : Taking.Next → Next
next_back (Taking.rejected refusal) = Next.Rejected (refusal_back refusal)
next_back Taking.over = Over
next_back (Taking.Next.refused handler refusal) = Refused handler (refusal_back refusal)
next_back (Taking.taken handler step) = Taken handler step.code step.value

admitted_same : (admitted : Result Sizes Refusal) → admitted_back (admission_is admitted) ≡ admitted
unfolding admitted_back
admitted_same (Ok sizes) = refl
admitted_same (Err refusal) = ap Err (refusal_same refusal)

found_same : (found : Result Unit Refusal) → found_back (found_is found) ≡ found
unfolding found_back
found_same (Ok tt) = refl
found_same (Err refusal) = ap Err (refusal_same refusal)

next_same : (next : Next) → next_back (next_is next) ≡ next
unfolding next_back
next_same (Next.Rejected refusal) = ap Next.Rejected (refusal_same refusal)
next_same Over = refl
next_same (Refused handler refusal) = ap (Refused handler) (refusal_same refusal)
next_same (Taken handler code value) = refl

-- Different answers about a file are different admissions.
pub admitted_apart : Injective admission_is
admitted_apart = read_back admission_is admitted_back admitted_same

-- Different answers about a script are different refusals, or one is none.
pub found_apart : Injective found_is
found_apart = read_back found_is found_back found_same

-- Different answers at an order place are different steps or refusals.
pub nexts_apart : Injective next_is
nexts_apart = read_back next_is next_back next_same

-- ── One outcome ───────────────────────────────────────────────────────

-- An admission has one answer,
pub admitted_determined : Determined admission_is
admitted_determined = determined admitted_apart

-- so has the question for a script,
pub found_determined : Determined found_is
found_determined = determined found_apart

-- so have the cursors before the first order place;
pub start_determined : {a b : Cursors} → Taking.StartPromise a.at → Taking.StartPromise b.at → a ≡ b
start_determined p q = ap (λ at. record { at = at }) (one_outcome p q).0

-- a script lies in one place,
pub part_determined : {file : List ℕ} {handler : ℕ} {a b : Part} → PartPromise file handler a → PartPromise file handler b → a ≡ b
part_determined p q = (one_outcome p q).0

-- is one row of bytes,
pub script_determined : {file : List ℕ} {handler : ℕ} {a b : List ℕ} → ScriptPromise file handler a → ScriptPromise file handler b → a ≡ b
script_determined p q = (one_outcome p q).0

-- and a next step has one, which leaves one row of cursors.
pub next_determined : Determined next_is
next_determined = determined nexts_apart
