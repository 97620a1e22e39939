-- An opening by its ways: refused with 20 or 21 and nothing changed, or ready with a fresh register in front of the words.
use Prim.Native.Nat.{ℕ, ◌+◌, ◌≤◌, ◌<◌}
use mathlib.Core.Path.{◌≡◌, sym, ap, ◌∙◌}
use mathlib.Core.Bool.{true, false}
use mathlib.Core.List.{List, ◌∷◌}
use native.Mathlib.Omega.{arith}
use native.Mathlib.Nat.{zero-add}
use lib.ListN.{length, get_or, drop}
use borrow.Author.Tests.{lt-ltb, le-ltb}
use Rattle.rules.specs.steps.Replies.{out_of_range, too_short, Opening, ready}
use Rattle.rules.specs.steps.Register.{zeros, idle, blank, fresh}
use Rattle.rules.specs.steps.Checks.{first_hit, in_range, opening_checks}
use Rattle.layout.specs.Rows.{part}
use Rattle.layout.specs.Places.{size, body_long, body_of, cell_long, handler_long, cell_start, handler_start, cell_part, handler_part}
use Rattle.layout.specs.View.{word_setting, Holds}
use Rattle.layout.proofs.Bits.{mask_none}
use Rattle.layout.proofs.Rows.{part_length, part_at}
use Rattle.layout.proofs.Untouched.{drop_after}
use Rattle.layout.proofs.Places.{cell_fits, handler_fits}
use Rattle.layout.proofs.Blocks.{HoldsCell, HoldsHandler, cell_is, handler_is}
use Rattle.layout.proofs.Holds.{holds_is}
use Rattle.promises.specs.Opening.{opening_refusal, opening_reply, opening_words, OpeningPromise}
use Rattle.words.specs.Rows.{Changed}

module _ (words : List ℕ) (m n : ℕ) where
  -- m or n out of range.
  pub opening_out : in_range m n ≡ false → OpeningPromise words m n (Opening.refused out_of_range) words
  unfolding opening_refusal opening_reply opening_words opening_checks first_hit
  opening_out out = record { replied = rw out; left = rw out }

  -- A buffer that is too short.
  pub opening_short : in_range m n ≡ true → length words < size m n → OpeningPromise words m n (Opening.refused too_short) words
  unfolding opening_refusal opening_reply opening_words opening_checks first_hit
  opening_short ranged short =
      let shorter = lt-ltb (length words) (size m n) short in
      record { replied = rw (ranged, shorter); left = rw (ranged, shorter) }

  -- Words that hold a fresh register, and behind it what was there.
  pub opening_ready : {body : List ℕ} → in_range m n ≡ true → size m n ≤ length words
      → Holds m n (fresh (word_setting m)) (drop (body_long m n) (body_of words)) body → OpeningPromise words m n ready (m ∷ n ∷ body)
  unfolding opening_refusal opening_reply opening_words opening_checks first_hit
  opening_ready ranged fits holds =
      let long = le-ltb (length words) (size m n) fits in
      record { replied = rw (ranged, long); left = ap (λ body. m ∷ n ∷ body) (holds_is holds) ∙ rw (ranged, long) }

-- ── A cleared body ────────────────────────────────────────────────────

module _ (m n : ℕ) (body cleared : List ℕ) (changed : Changed 0 (body_long m n) zeros body cleared) where
  -- A word of a part of the body is 0.
  zero_in : (from count : ℕ) → from + count ≤ body_long m n → (y : ℕ) → y < count → get_or (part from count cleared) y 0 ≡ 0
  zero_in from count ends y h = part_at from count cleared y h ∙ (simp zero-add at (changed.inside (from + y) (omega arith)))

  -- The body lies in the words.
  long : body_long m n ≤ length cleared
  long = omega (arith, changed.untouched.fits, changed.untouched.size)

  -- Each cell is blank.
  cell_blank : (c : ℕ) → c < m → HoldsCell m (blank (word_setting m)) (cell_part m cleared c)
  unfolding blank
  cell_blank c h =
      let zero = zero_in (cell_start m c) (cell_long m) (cell_fits m n c h) in
      record {
        size = part_length (cell_start m c) (cell_long m) cleared (omega (arith, long, cell_fits m n c h));
        value = zero 0 (omega arith);
        numbers = λ y l. zero (1 + y) (omega arith);
      }

  -- Each handler is idle with no numbers.
  handler_idle : (i : ℕ) → i < n → HoldsHandler m (idle (word_setting m) zeros) (handler_part m cleared i)
  unfolding idle
  handler_idle i h =
      let zero = zero_in (handler_start m i) (handler_long m) (handler_fits m n i h) in
      record {
        size = part_length (handler_start m i) (handler_long m) cleared (omega (arith, long, handler_fits m n i h));
        phase = zero 0 (omega arith);
        read_set = zero 1 (omega arith) ∙ sym (mask_none m);
        written_set = zero 2 (omega arith) ∙ sym (mask_none m);
        numbers = λ y l. zero _ (omega arith);
        transaction = λ y l. zero _ (omega arith);
        copies = λ y l. zero _ (omega arith);
      }

  -- A cleared body holds a fresh register, and behind it what was there.
  pub cleared_holds : Holds m n (fresh (word_setting m)) (drop (body_long m n) body) cleared
  unfolding fresh
  cleared_holds = record {
    fits = long;
    cells = λ c h. cell_is m _ _ (cell_blank c h);
    handlers = λ i h. handler_is m _ _ (handler_idle i h);
    beyond = drop_after changed.untouched (body_long m n) (omega arith);
  }
