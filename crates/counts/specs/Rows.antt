-- One handler's counts as the code holds them, column by column: the count that is raised, and counts brought up to date.
-- For internal contracts alone.
use Rattle.std.specs.Prelude.{ℕ, ◌+◌, ◌<◌, ◌≡◌, List, [], ◌∷◌, get_or, Option, None, Some}
use Rattle.std.proofs.Math.Option as Math
use Rattle.counts.specs.declared.Counts.{Counts}
use Rattle.counts.specs.declared.Count.{Count}
use Rattle.counts.specs.declared.Count.TheVariants.{Begun, Committed, Torn, Overtaken, Spent, GaveUp}
use Rattle.counts.specs.Counting as Counting
use Rattle.counts.specs.Counting.{begun, committed, torn, overtaken, spent, gave_up, adds}

-- The counts in the order of their columns.
abbrev pub row_of : Counts → List ℕ
row_of counts = counts.begun ∷ counts.committed ∷ counts.torn ∷ counts.overtaken ∷ counts.spent ∷ counts.given_up ∷ []

-- The count in a column.
abbrev pub in_column : Counts → ℕ → ℕ
in_column counts k = get_or (row_of counts) k 0

-- The count that the code raises, as the table has it.
abbrev pub count_is : Option Count → Math.Option Counting.Count
count_is None = Math.none
count_is (Some Begun) = Math.some begun
count_is (Some Committed) = Math.some committed
count_is (Some Torn) = Math.some torn
count_is (Some Overtaken) = Math.some overtaken
count_is (Some Spent) = Math.some spent
count_is (Some GaveUp) = Math.some gave_up

-- The count that is raised is one higher than before, and the others are as they were.
pub record BroughtUp (raised : Math.Option Counting.Count) (before after : Counts) : Type 0 where
  pub raises : (k : ℕ) → k < 6 → in_column after k ≡ in_column before k + adds raised k

-- Each count can be raised.
pub record Room (counts : Counts) : Type 0 where
  pub begun : counts.begun < 4294967295
  pub committed : counts.committed < 4294967295
  pub torn : counts.torn < 4294967295
  pub overtaken : counts.overtaken < 4294967295
  pub spent : counts.spent < 4294967295
  pub given_up : counts.given_up < 4294967295
