-- What the third demand says of abort 1 whatever the cell: a first read is aborted at all exactly when the writer of the present value, or a
-- commit in that writer's causal past, wrote a later version than one already read.
use Prim.Native.Nat.{ℕ}
use mathlib.Core.Path.{◌≡◌}
use mathlib.Core.Bool.{true}
use mathlib.Core.List.{List}
use mathlib.Core.Logic.{◌↔◌}
use Rattle.rules.specs.steps.Tables.{LowestOf}
use Rattle.rules.specs.steps.Replies.{torn, aborted}
use Rattle.rules.specs.steps.Register.{Setting, Register}
use Rattle.rules.specs.steps.Turn.{turn}
use Rattle.rules.specs.history.History.{Deed, Commit, History, writer}
use Rattle.rules.specs.history.Past.{Tears, up_to, outdated}
use Rattle.rules.specs.demand.Demand.{reported_to, FirstRead, Consistent}
use Rattle.rules.proofs.steps.Tables.{lowest_there}
use Rattle.rules.proofs.history.Computed.{tears_at_lem}

-- Whatever says that a cell is the lowest that tears says it of some cell exactly when some cell tears.
pub torn_at_all : {W : Type 0} (commits : List (Commit W)) (deeds : List (Deed W)) (k : ℕ) (Says : ℕ → Type 0)
    → ((y : ℕ) → Says y ↔ LowestOf (Tears commits deeds k) y) → ((y : ℕ) × Says y) ↔ ((y : ℕ) × Tears commits deeds k y)
torn_at_all commits deeds k Says exactly = ((λ said. (said.0, ((exactly said.0).0 said.1).meets)), from)
  where
    from : (y : ℕ) × Tears commits deeds k y → (y : ℕ) × Says y
    from (y, tears) =
        let least = lowest_there (outdated commits (up_to commits k) deeds) (Tears commits deeds k) (tears_at_lem commits deeds k) y tears in
        (least.0, (exactly least.0).1 least.1)

-- So it is of a first read, of every register and history that agree with the third demand.
pub read_torn_at_all : {W : Type 0} (S : Setting W) (n : ℕ) (r : Register W) (h : History W) → Consistent S n r h
    → (i code x : ℕ) (v : W) → FirstRead S n h i code x
    → ((y : ℕ) × ((turn S n true r i code v).reply ≡ reported_to i code (aborted (torn y))))
    ↔ ((y : ℕ) × Tears h.commits (h.now i) (writer h.commits x) y)
read_torn_at_all S n r h consistent i code x v first =
    torn_at_all h.commits (h.now i) (writer h.commits x) _ (λ y. consistent.torn_exactly i code x y v first)
