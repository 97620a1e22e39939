-- Where cells and handlers lie: inside the register, one after another, at places that stay small. The one fact that is not
-- linear is that a row ends where the next begins.
use Prim.Native.Nat.{ℕ, ◌+◌, ◌*◌, ◌≤◌, ◌<◌}
use native.Mathlib.Omega.{arith}
use native.Mathlib.Nat.{mul-le-mul}
use Rattle.layout.specs.Places.{cell_long, handler_long, body_long, cell_start, handler_start}
use Rattle.layout.proofs.Rows.{rows_apart}

-- Where the cells end and the handlers begin.
abbrev pub handlers_start : ℕ → ℕ
handlers_start m = cell_start m m

-- A cell's words end before the handlers begin.
pub cell_ends : (m c : ℕ) → c < m → cell_start m c + cell_long m ≤ handlers_start m
cell_ends m c h = omega (arith, rows_apart (cell_long m) c m h)

-- A handler's block ends before a later one begins.
pub handler_ends : (m i j : ℕ) → i < j → handler_start m i + handler_long m ≤ handler_start m j
handler_ends m i j h = omega (arith, rows_apart (handler_long m) i j h)

-- A cell's words lie in the body.
pub cell_fits : (m n c : ℕ) → c < m → cell_start m c + cell_long m ≤ body_long m n
cell_fits m n c h = omega (arith, cell_ends m c h)

-- A handler's block lies in the body.
pub handler_fits : (m n i : ℕ) → i < n → handler_start m i + handler_long m ≤ body_long m n
handler_fits m n i h = handler_ends m i n h

-- Of at most 32 cells, no cell begins beyond place 1,056.
pub cell_start_small : (m c : ℕ) → m ≤ 32 → c ≤ 32 → cell_start m c ≤ 1056
cell_start_small m c h l = omega (arith, mul-le-mul {n₁ = c} {m₁ = 1 + m} {n₂ = 32} {m₂ = 33} l (omega arith))

-- Of at most 32 cells and 16 handlers, no block begins beyond place 2,640.
pub handler_start_small : (m i : ℕ) → m ≤ 32 → i ≤ 16 → handler_start m i ≤ 2640
handler_start_small m i h l =
    omega (arith, cell_start_small m m h h, mul-le-mul {n₁ = i} {m₁ = 3 + 3 * m} {n₂ = 16} {m₂ = 99} l (omega arith))

-- The largest body has 2,640 words.
pub body_small : (m n : ℕ) → m ≤ 32 → n ≤ 16 → body_long m n ≤ 2640
body_small = handler_start_small
