-- Any two outcomes that a promise allows are equal: the very answer, and all that is left. It is said once, of every operation.
use mathlib.Core.Path.{◌≡◌, sym, ◌∙◌}
use Rattle.rules.specs.Promise.{Due, Promise}
use Rattle.rules.proofs.steps.Numbers.{Injective}

-- A promise allows one reply, and one thing left.
pub one_outcome : {Given Reply Left : Type 0} {operation : Given → Due Reply Left} {given : Given} {a b : Reply} {x y : Left}
    → Promise operation given a x → Promise operation given b y → (a ≡ b) × (x ≡ y)
one_outcome p q = (p.replied ∙ sym q.replied, p.left ∙ sym q.left)

-- A kind of answer is determined, where an answer means a reply: whatever the operation and whatever it is given, its promise allows
-- one answer, and one thing left.
abbrev pub Determined : {Answer Reply : Type 0} → (Answer → Reply) → Type 1
Determined {Answer} {Reply} meaning = (Given Left : Type 0) (operation : Given → Due Reply Left) (given : Given) (a b : Answer) (x y : Left)
    → Promise operation given (meaning a) x → Promise operation given (meaning b) y → (a ≡ b) × (x ≡ y)

-- It is so wherever different answers mean different replies.
pub determined : {Answer Reply : Type 0} {meaning : Answer → Reply} → Injective meaning → Determined meaning
determined apart Given Left operation given a b x y p q = let same = one_outcome p q in (apart a b same.0, same.1)
