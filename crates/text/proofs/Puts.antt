-- Bytes put one after another into a buffer are put together.
use Prim.Native.Nat.{ℕ, suc, ◌+◌, ◌-◌, ◌≤◌}
use mathlib.Core.Path.{◌≡◌, refl, sym, ap, ◌∙◌, subst}
use mathlib.Core.List.{List, [], ◌∷◌, ◌++◌, append_assoc, append-nil}
use borrow.Rule.Slice.PartMut.{put_mid}
use native.Mathlib.Omega.{arith}
use lib.ListN.{length, take, drop, set, length-append, length-take, length-drop, length-set}
use lib.Seq.{set_out, drop-length}
use Rattle.std.proofs.lemmas.List.{take_all, drop_all}
use Rattle.text.specs.Lies.{over, Puts}

-- ── A text over a buffer ──────────────────────────────────────────────

-- A text leaves a buffer as long as it is,
pub over_long : (text space : List ℕ) → length (over text space) ≡ length space
unfolding over
over_long [] space = refl
over_long (byte ∷ text) [] = refl
over_long (byte ∷ text) (was ∷ space) = ap suc (over_long text space)

-- and a byte that is stored behind it is one byte more of it.
over_more : (text space : List ℕ) (byte : ℕ) → set (over text space) (length text) byte ≡ over (text ++ (byte ∷ [])) space
unfolding over
over_more [] [] byte = refl
over_more [] (was ∷ space) byte = refl
over_more (first ∷ text) [] byte = refl
over_more (first ∷ text) (was ∷ space) byte = ap (first ∷◌) (over_more text space byte)

-- Over no buffer there is nothing.
over_none : (text : List ℕ) → over text [] ≡ []
unfolding over
over_none [] = refl
over_none (byte ∷ text) = refl

-- A text over all that is left behind one makes that longer.
over_behind : (text bytes space : List ℕ)
    → take (length text) (over text space) ++ over bytes (drop (length text) (over text space)) ≡ over (text ++ bytes) space
unfolding over
over_behind [] bytes space = refl
over_behind (first ∷ text) bytes [] = over_none bytes
over_behind (first ∷ text) bytes (was ∷ space) = ap (first ∷◌) (over_behind text bytes space)

-- A text that fits lies over the front,
over_fits : (text space : List ℕ) → length text ≤ length space → over text space ≡ text ++ drop (length text) space
unfolding over
over_fits [] space fits = refl
over_fits (byte ∷ text) [] fits = absurd (omega arith)
over_fits (byte ∷ text) (was ∷ space) fits = ap (byte ∷◌) (over_fits text space (omega arith))

-- and of one that does not as much as fits.
over_cut : (text space : List ℕ) → length space ≤ length text → over text space ≡ take (length space) text
unfolding over
over_cut [] [] cut = refl
over_cut [] (was ∷ space) cut = absurd (omega arith)
over_cut (byte ∷ text) [] cut = refl
over_cut (byte ∷ text) (was ∷ space) cut = ap (byte ∷◌) (over_cut text space (omega arith))

-- ── Bytes put ─────────────────────────────────────────────────────────

-- No bytes are put anywhere,
pub puts_none : {at : ℕ} {buffer : List ℕ} → Puts [] at at buffer buffer
puts_none = record {
  ends = omega arith;
  size = refl;
  lies = λ text space long is. is ∙ ap (λ t. over t space) (sym (append-nil text));
}

-- a byte is put by a store, which is none beyond the end,
pub puts_byte : {at end byte : ℕ} {buffer : List ℕ} → end ≡ at + 1 → Puts (byte ∷ []) at end buffer (set buffer at byte)
puts_byte {at} {byte = byte} {buffer} ends = record {
  ends = ends;
  size = length-set buffer at byte;
  lies = λ text space long is. rw (sym long, is) (over_more text space byte);
}

pub puts_beyond : {at end byte : ℕ} {buffer : List ℕ} → length buffer ≤ at → end ≡ at + 1 → Puts (byte ∷ []) at end buffer buffer
puts_beyond {at} {end} {byte} {buffer} outside ends =
    subst (Puts (byte ∷ []) at end buffer) (set_out buffer at byte outside) (puts_byte ends)

-- a text is put over all that is left,
abbrev pub left_over : ℕ → List ℕ → List ℕ → List ℕ
left_over at text buffer = take at buffer ++ over text (drop at buffer)

pub puts_over : {at end : ℕ} {text buffer : List ℕ} → end ≡ at + length text → Puts text at end buffer (left_over at text buffer)
puts_over {at} {text = bytes} {buffer} ends = record {
  ends = ends;
  size = length-append (take at buffer) (over bytes (drop at buffer)) ∙ simp (over_long, length-take, length-drop) (omega arith);
  lies = λ text space long is. rw (sym long, is) (over_behind text bytes space);
}

-- by a copy where there is room for all of it,
pub puts_copied : {at end k : ℕ} {text buffer new : List ℕ} → end ≡ at + length text → end ≤ length buffer → k ≡ length text → new ≡ text
    → Puts text at end buffer (put_mid at k buffer new)
puts_copied {at} {text = bytes} {buffer} ends fits size is =
    rw (is, size, ← over_fits bytes (drop at buffer) (omega (arith, length-drop at buffer))) (puts_over ends)

-- or of as much as there is room for,
pub puts_cut : {at end k : ℕ} {text buffer new : List ℕ} → end ≡ at + length text → length buffer ≤ end → k ≡ length buffer - at → new ≡ take k text
    → Puts text at end buffer (put_mid at k buffer new)
puts_cut {at} {k = k} {text = bytes} {buffer} ends cut size is =
    rw (is, room, drop-length, append-nil, ← over_cut bytes (drop at buffer) (omega (arith, length-drop at buffer))) (puts_over ends)
  where
    room : k ≡ length (drop at buffer)
    room = size ∙ sym (length-drop at buffer)

-- and by none beyond the end,
pub puts_out : {at end : ℕ} {text buffer : List ℕ} → end ≡ at + length text → length buffer ≤ at → Puts text at end buffer buffer
puts_out {at} {end} {text = bytes} {buffer} ends outside = subst (Puts bytes at end buffer) same (puts_over ends)
  where
    same : left_over at bytes buffer ≡ buffer
    same = rw (take_all at buffer outside, drop_all at buffer outside, over_none bytes) (append-nil buffer)

-- and bytes are put behind bytes.
pub puts_both : {first second : List ℕ} {at mid end : ℕ} {x y z : List ℕ}
    → Puts first at mid x y → Puts second mid end y z → Puts (first ++ second) at end x z
puts_both {first} {second} p q = record {
  ends = omega (arith, p.ends, q.ends, length-append first second);
  size = q.size ∙ p.size;
  lies = λ text space long is.
      q.lies (text ++ first) space (length-append text first ∙ ap (λ k. k + length first) long ∙ sym p.ends) (p.lies text space long is)
      ∙ ap (λ t. over t space) (append_assoc text first second);
}

-- ── A whole text ──────────────────────────────────────────────────────

-- A text put from the front on lies over the buffer, and its length is told.
pub puts_whole : {text : List ℕ} {end : ℕ} {before after : List ℕ} → Puts text 0 end before after
    → (end ≡ length text) × (after ≡ over text before)
unfolding over
puts_whole {text} {before = before} p = (omega (arith, p.ends), p.lies [] before refl refl)
