-- A row is its steps one by one: they come to one outcome, which is what the definitions of a row say, and so what a row leaves.
use Prim.Native.Nat.{ℕ}
use mathlib.Core.Path.{◌≡◌, refl, sym, ap, ap₂, ◌∙◌}
use mathlib.Core.List.{List, [], ◌∷◌}
use Rattle.rules.specs.steps.Replies.{Reply}
use Rattle.rules.specs.demand.Demand.{Ask}
use Rattle.layout.specs.Rows.{splice}
use Rattle.promises.specs.Stepping.{StepPromise}
use Rattle.rows.specs.Rows.{steps_in, asking, words_after, reports_of, reports_long}
use Rattle.rows.specs.OneByOne.{OneByOne, done, next, reports_for, RowIsItsSteps}
use Rattle.rows.proofs.Exactly.{row_known}

-- What a step of a row comes to keeps the register's promise.
pub asking_promised : (words : List ℕ) (a : Ask ℕ)
    → StepPromise words a.handler a.code a.value (asking words a).reply (asking words a).leaves
asking_promised words a = record { replied = refl; left = refl }

-- The replies to steps one by one, each on the words that the one before it left.
unfoldable pub replies_of : List ℕ → List (Ask ℕ) → List (Reply ℕ)
replies_of words [] = []
replies_of words (a ∷ asks) = (asking words a).reply ∷ replies_of (asking words a).leaves asks

-- Their reports are those of the definitions.
pub reports_of_replies : (words : List ℕ) (asks : List (Ask ℕ)) → reports_for asks (replies_of words asks) ≡ reports_of words asks
unfolding replies_of reports_for reports_of
reports_of_replies words [] = refl
reports_of_replies words (a ∷ asks) = rw (reports_of_replies (asking words a).leaves asks)

-- Steps can be called for one by one, and then come to these replies and words,
pub one_by_one_there : (words : List ℕ) (asks : List (Ask ℕ)) → OneByOne asks words (replies_of words asks) (words_after words asks)
unfolding replies_of words_after
one_by_one_there words [] = done
one_by_one_there words (a ∷ asks) = next (asking_promised words a) (one_by_one_there (asking words a).leaves asks)

-- and to no others.
pub one_by_one_is : {asks : List (Ask ℕ)} {words after : List ℕ} {replies : List (Reply ℕ)} → OneByOne asks words replies after
    → (replies ≡ replies_of words asks) × (after ≡ words_after words asks)
unfolding replies_of words_after
one_by_one_is done = (refl, refl)
one_by_one_is {asks = a ∷ asks} (next p rest) =
    let (replies, after) = one_by_one_is rest in (
      ap₂ ◌∷◌ p.replied (replies ∙ ap (λ words. replies_of words asks) p.left),
      after ∙ ap (λ words. words_after words asks) p.left,
    )

-- So any two outcomes of the same steps on the same words are equal: every reply, and every word.
pub one_by_one_same : {asks : List (Ask ℕ)} {words after end : List ℕ} {replies others : List (Reply ℕ)}
    → OneByOne asks words replies after → OneByOne asks words others end → (replies ≡ others) × (after ≡ end)
one_by_one_same first second =
    let (replies, after) = one_by_one_is first in
    let (others, end) = one_by_one_is second in
    (replies ∙ sym others, after ∙ sym end)

-- A row is its steps one by one.
pub row_is_its_steps : RowIsItsSteps
row_is_its_steps words steps reports place after told between replies promise steps_done =
    let row = row_known promise in
    let (same, leaves) = one_by_one_is steps_done in
    let asks = steps_in steps in
    let saying = sym (ap (reports_for asks) same ∙ reports_of_replies words asks) in
    (row.left ∙ sym leaves, row.said ∙ ap (λ new. splice place (reports_long asks) new reports) saying)
