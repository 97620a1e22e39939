-- One word of a block stored: the table that its row is, and the set that it is with a cell more.
use Rattle.std.proofs.Common.{ℕ, ◌+◌, ◌<◌, ◌≡◌, sym, ◌∙◌, Bool, true, List, arith, length, get_or, set}
use Rattle.std.proofs.lemmas.Grind.{common_steps}
use Rattle.rules.specs.steps.Tables.{put}
use Rattle.rules.proofs.steps.Tables.{put_each}
use Rattle.layout.specs.Bits.{has_bit, mask, with_bit}
use Rattle.layout.proofs.Bits.{mask_small, mask_ext, mask_with, has_mask}

-- A row that was a table's is, with one word stored, that table's with the entry put in.
pub stored_row : {m : ℕ} (from x at v : ℕ) (table : ℕ → ℕ) (block : List ℕ) → at ≡ from + x → at < length block
    → ((y : ℕ) → y < m → get_or block (from + y) 0 ≡ table y) → (y : ℕ) → y < m → get_or (set block at v) (from + y) 0 ≡ put table x v y
stored_row {m} from x at v table block place inside row =
    put_each (λ y entry. y < m → get_or (set block at v) (from + y) 0 ≡ entry) table x v
    (λ _. grind (arith, common_steps))
    (λ y ne h. let same = row y h in grind (arith, common_steps))

-- The word of a set with cell x more is the word of the set with x.
pub set_joins : (m x : ℕ) (cells : ℕ → Bool) → x < m → with_bit (mask m cells) x ≡ mask m (put cells x true)
unfolding put
set_joins m x cells inside =
    sym (mask_with m (mask m cells) x (mask_small m cells) inside)
    ∙ mask_ext m (put (has_bit (mask m cells)) x true) (put cells x true) (λ c h. rw (has_mask m cells c h))
