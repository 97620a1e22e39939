-- When a first read or a try is aborted, as statements about every cell; proofs/steps/Attempts.antt shows that the tests of Figure.antt
-- answer exactly these.
use Rattle.std.specs.Prelude.{ℕ, ◌<◌, ◌≡◌, true}
use Rattle.rules.specs.steps.Tables.{LowestOf}
use Rattle.rules.specs.steps.Replies.{Reason, torn, overtaken, spent, gave_up}
use Rattle.rules.specs.steps.Register.{Setting, Cell, Handler, Register}

-- Line 10: each cell of the read set still has the number that the transaction holds for it.
unfoldable pub Current : {W : Type 0} → Setting W → Register W → Handler W → Type 0
Current S r h = (z : ℕ) → z < S.cell_count → h.read_set z ≡ true → h.transaction z ≡ (r.cells z).numbers z

-- The cell z of the read set has another number than the transaction holds for it.
unfoldable pub Stale : {W : Type 0} → Setting W → Register W → Handler W → ℕ → Type 0
Stale S r h z = (z < S.cell_count) × (h.read_set z ≡ true) × (h.transaction z ≡ (r.cells z).numbers z → ⊥)

-- The cell z is written, and its number stands at 65,535.
unfoldable pub Spent : {W : Type 0} → Setting W → Register W → Handler W → ℕ → Type 0
Spent S r h z = (z < S.cell_count) × (h.written_set z ≡ true) × ((r.cells z).numbers z ≡ 65535)

-- No written cell's number stands at 65,535.
unfoldable pub Roomy : {W : Type 0} → Setting W → Register W → Handler W → Type 0
Roomy S r h = (z : ℕ) → z < S.cell_count → h.written_set z ≡ true → (r.cells z).numbers z ≡ 65535 → ⊥

-- X depends on a later version of the cell y of the read set than the transaction holds.
unfoldable pub Torn : {W : Type 0} → Setting W → Handler W → Cell W → ℕ → Type 0
Torn S h c y = (y < S.cell_count) × (h.read_set y ≡ true) × (h.transaction y < c.numbers y)

-- When a try is aborted with each reason, and the lowest cell that gives it: 2 goes before 3. Abort 1 is a read's, and abort 5 a give up's.
abbrev pub TryAborted : {W : Type 0} → Setting W → Reason → Register W → Handler W → Type 0
TryAborted S (torn y) r h = ⊥
TryAborted S (overtaken z) r h = LowestOf (Stale S r h) z
TryAborted S (spent z) r h = Current S r h × LowestOf (Spent S r h) z
TryAborted S gave_up r h = ⊥
