-- The columns of a handler's counts: counts are brought up to date where one has gone up by 1 in its column, or none has.
use Rattle.std.proofs.Common.{◌≡◌, ◌+◌, ◌<◌, ℕ, zero, suc, arith}
use Rattle.std.proofs.Math.Option.{Option}
use Rattle.counts.specs.declared.Counts.{Counts}
use Rattle.counts.specs.Counting.{Count, adds}
use Rattle.counts.specs.Rows.{in_column, BroughtUp}

-- What holds of each of the six columns holds of all.
pub each_column : (P : ℕ → Type 0) → P 0 → P 1 → P 2 → P 3 → P 4 → P 5 → (k : ℕ) → k < 6 → P k
each_column P p0 p1 p2 p3 p4 p5 zero small = p0
each_column P p0 p1 p2 p3 p4 p5 (suc zero) small = p1
each_column P p0 p1 p2 p3 p4 p5 (suc (suc zero)) small = p2
each_column P p0 p1 p2 p3 p4 p5 (suc (suc (suc zero))) small = p3
each_column P p0 p1 p2 p3 p4 p5 (suc (suc (suc (suc zero)))) small = p4
each_column P p0 p1 p2 p3 p4 p5 (suc (suc (suc (suc (suc zero))))) small = p5
each_column P p0 p1 p2 p3 p4 p5 (suc (suc (suc (suc (suc (suc k)))))) small = absurd (omega arith)

-- What is said of each column is said of counts brought up to date.
pub brought_up_by : {raised : Option Count} {before after : Counts}
    → in_column after 0 ≡ in_column before 0 + adds raised 0 → in_column after 1 ≡ in_column before 1 + adds raised 1
    → in_column after 2 ≡ in_column before 2 + adds raised 2 → in_column after 3 ≡ in_column before 3 + adds raised 3
    → in_column after 4 ≡ in_column before 4 + adds raised 4 → in_column after 5 ≡ in_column before 5 + adds raised 5
    → BroughtUp raised before after
brought_up_by a b c d e f = record { raises = each_column _ a b c d e f }
