-- Texts put one after another on a page are put together.
use Rattle.std.proofs.Common.{ℕ, suc, ◌+◌, ◌≡◌, List, [], ◌++◌, ◌∙◌, refl, length, ap, MutBor, arith}
use Rattle.text.specs.declared.Page.{Page}
use Rattle.text.specs.Pages.{Writes}
use Rattle.text.specs.Bytes.{in_turn}
use Rattle.text.specs.Lies.{over}
use Rattle.text.proofs.Puts.{puts_none, puts_both, puts_whole}

-- No text is put anywhere,
pub writes_none : {page : Page} → Writes [] page page
writes_none = record { same = refl; puts = puts_none }

-- and a text behind a text.
pub writes_both : {first second : List ℕ} {before between after : Page}
    → Writes first before between → Writes second between after → Writes (first ++ second) before after
writes_both p q = record { same = q.same ∙ p.same; puts = puts_both p.puts q.puts }

-- ── Texts, one after another ──────────────────────────────────────────

-- No text is put anywhere,
pub turn_none : (text : ℕ → List ℕ) {page : Page} → Writes (in_turn 0 text) page page
unfolding in_turn
turn_none text = writes_none

-- and the next behind those before it.
pub turn_more : (text : ℕ → List ℕ) (k : ℕ) {before between after : Page}
    → Writes (in_turn k text) before between → Writes (text k) between after → Writes (in_turn (k + 1) text) before after
unfolding in_turn
turn_more text k so_far next =
    let one_more : k + 1 ≡ suc k = omega arith in
    rw one_more (writes_both so_far next)

-- ── A whole text ──────────────────────────────────────────────────────

-- A text that is put on an empty page over a buffer lies over the buffer, and its length is told.
pub page_whole : {text : List ℕ} {buffer : MutBor (List ℕ)} {before after : Page} → before.end ≡ 0 → before.buffer ≡ buffer
    → Writes text before after → (after.end ≡ length text) × (after.buffer.now ≡ over text buffer.now)
page_whole {text} front lent put = puts_whole (rw (front, ap (λ b. b.now) lent) at put.puts)
