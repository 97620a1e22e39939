-- The table of counts, computed row by row: what a reply of each kind adds to the six counts of its handler; and that a column belongs to
-- one count.
use Prim.Native.Nat.{ℕ, zero, suc}
use mathlib.Core.Path.{◌≡◌, refl}
use mathlib.Core.List.{List, [], ◌∷◌}
use Rattle.rules.specs.steps.Codes.{plain_sheet}
use Rattle.rules.specs.steps.Replies as Rules
use Rattle.rules.proofs.steps.Numbers.{Injective, read_back}
use Rattle.counts.specs.Counting.{Count, begun, committed, torn, overtaken, spent, gave_up, column, raised_by, raised, is_in, adds}

-- ── What replies add ──────────────────────────────────────────────────

-- What a reply to a step code adds to each count: begun, committed, torn, overtaken, spent, given up.
added : ℕ → Rules.Reply ℕ → List ℕ
added code reply =
    let count = raised code reply in
    adds count 0 ∷ adds count 1 ∷ adds count 2 ∷ adds count 3 ∷ adds count 4 ∷ adds count 5 ∷ []

-- The same for a step that is taken, of handler 3.
taken : ℕ → Rules.Outcome ℕ → List ℕ
taken code outcome = added code (Rules.reported (record { handler = 3; code = code; outcome = outcome }))

-- A begin that is done adds to begun,
begin_done : taken 0 Rules.ok ≡ 1 ∷ 0 ∷ 0 ∷ 0 ∷ 0 ∷ 0 ∷ []
unfolding added taken raised raised_by is_in plain_sheet
begin_done = refl

-- and one that is refused to none.
begin_refused : added 0 (Rules.Reply.refused Rules.already_open) ≡ 0 ∷ 0 ∷ 0 ∷ 0 ∷ 0 ∷ 0 ∷ []
unfolding added raised is_in
begin_refused = refl

-- A write that is done adds to none,
write_done : taken 64 Rules.ok ≡ 0 ∷ 0 ∷ 0 ∷ 0 ∷ 0 ∷ 0 ∷ []
unfolding added taken raised raised_by is_in plain_sheet
write_done = refl

-- and so does a read, whether it gives a value
read_value : taken 32 (Rules.shows (Rules.value 7)) ≡ 0 ∷ 0 ∷ 0 ∷ 0 ∷ 0 ∷ 0 ∷ []
unfolding added taken raised raised_by is_in
read_value = refl

-- or finds the cell unset.
read_unset : taken 32 (Rules.shows Rules.unset) ≡ 0 ∷ 0 ∷ 0 ∷ 0 ∷ 0 ∷ 0 ∷ []
unfolding added taken raised raised_by is_in
read_unset = refl

-- A commit adds to committed.
try_committed : taken 1 Rules.committed ≡ 0 ∷ 1 ∷ 0 ∷ 0 ∷ 0 ∷ 0 ∷ []
unfolding added taken raised raised_by is_in
try_committed = refl

-- Each reason of an abort adds to its own count.
read_torn : (y : ℕ) → taken 32 (Rules.aborted (Rules.torn y)) ≡ 0 ∷ 0 ∷ 1 ∷ 0 ∷ 0 ∷ 0 ∷ []
unfolding added taken raised raised_by is_in
read_torn y = refl

try_overtaken : (z : ℕ) → taken 1 (Rules.aborted (Rules.overtaken z)) ≡ 0 ∷ 0 ∷ 0 ∷ 1 ∷ 0 ∷ 0 ∷ []
unfolding added taken raised raised_by is_in
try_overtaken z = refl

try_spent : (z : ℕ) → taken 1 (Rules.aborted (Rules.spent z)) ≡ 0 ∷ 0 ∷ 0 ∷ 0 ∷ 1 ∷ 0 ∷ []
unfolding added taken raised raised_by is_in
try_spent z = refl

gave_up_lem : taken 2 (Rules.aborted Rules.gave_up) ≡ 0 ∷ 0 ∷ 0 ∷ 0 ∷ 0 ∷ 1 ∷ []
unfolding added taken raised raised_by is_in
gave_up_lem = refl

-- ── One count to a column ─────────────────────────────────────────────

-- The count of a column.
count_back : ℕ → Count
count_back zero = begun
count_back (suc zero) = committed
count_back (suc (suc zero)) = torn
count_back (suc (suc (suc zero))) = overtaken
count_back (suc (suc (suc (suc zero)))) = spent
count_back (suc (suc (suc (suc (suc k))))) = gave_up

count_back_lem : (count : Count) → count_back (column count) ≡ count
unfolding count_back
count_back_lem begun = refl
count_back_lem committed = refl
count_back_lem torn = refl
count_back_lem overtaken = refl
count_back_lem spent = refl
count_back_lem gave_up = refl

-- No two counts stand in the same column.
pub columns_apart : Injective column
columns_apart = read_back column count_back count_back_lem
