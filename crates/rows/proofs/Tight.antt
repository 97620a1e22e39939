-- Any two outcomes that the promise of a row allows are equal: the very answer, every word of the register, and every word for reports.
use Rattle.std.proofs.Common.{ℕ, ◌≡◌, refl, ap, List, Result, Ok, Err}
use Rattle.std.proofs.Math.Option.{Option, none, some}
use Rattle.rules.specs.steps.Replies as Rules
use Rattle.rules.proofs.Determined.{Determined, determined}
use Rattle.rules.proofs.steps.Numbers.{Injective, read_back}
use Rattle.replies.proofs.Apart.{refusal_back, refusal_same}
use Rattle.replies.specs.declared.Refusal.{Refusal}
use Rattle.rows.specs.Rows.{RowPromise}
use Rattle.rows.specs.Meaning.{rowed_is}

-- The answer, by what it means.
rowed_back : Option Rules.Refusal → Result Unit Refusal
rowed_back none = Ok tt
rowed_back (some refusal) = Err (refusal_back refusal)

rowed_same : (rowed : Result Unit Refusal) → rowed_back (rowed_is rowed) ≡ rowed
unfolding rowed_back
rowed_same (Ok tt) = refl
rowed_same (Err refusal) = ap Err (refusal_same refusal)

-- Different answers mean different replies.
pub rowed_apart : Injective rowed_is
rowed_apart = read_back rowed_is rowed_back rowed_same

-- A row has one answer, and leaves one register and one row of reports.
pub rowed_determined : Determined rowed_is
rowed_determined = determined rowed_apart

-- So two outcomes of one row are equal, each in its answer and in every word that was lent.
pub one_row : {words steps reports : List ℕ} {place : ℕ} {a b : Result Unit Refusal} {after told end saying : List ℕ}
    → RowPromise words steps reports place (rowed_is a) after told → RowPromise words steps reports place (rowed_is b) end saying
    → (a ≡ b) × (after ≡ end) × (told ≡ saying)
one_row p q =
    let (same, left) = rowed_determined _ _ _ _ _ _ _ _ p q in
    (same, ap (λ lent. lent.words) left, ap (λ lent. lent.reports) left)
