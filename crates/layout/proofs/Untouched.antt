-- Words that are the same but for one part: every part and every end outside it is the same, so that of rows one after another
-- only the one that lies there is another. Words with a part put in are such words, and all such words are that.
use Prim.Native.Nat.{ℕ, ◌+◌, ◌-◌, ◌*◌, ◌≤◌, ◌<◌}
use mathlib.Core.Path.{◌≡◌, sym, ap, ap₂, ◌∙◌}
use mathlib.Core.List.{List, ◌++◌}
use native.Mathlib.Omega.{arith}
use lib.Dec.{ltb}
use lib.ListN.{length, get_or, take, drop, length-append, length-take, length-drop, take-append-drop, get_or-append}
use lib.Seq.{ext_get_or, get_or-take, get_or-drop, drop-drop, take_at, drop_at}
use borrow.Author.Tests.{ltb-true, ltb-false}
use Rattle.rules.specs.steps.Tables.{put}
use Rattle.rules.proofs.steps.Tables.{by, put_each}
use Rattle.layout.specs.Rows.{part, splice, Untouched}
use Rattle.layout.proofs.Rows.{part_length, part_at, part_is, part_cut, rows_apart}

module _ {from long : ℕ} {words after : List ℕ} (same : Untouched from long words after) where
  -- A part that ends before the changed one is as before.
  pub part_before : (start count : ℕ) → start + count ≤ from → part start count after ≡ part start count words
  part_before start count ends =
      part_is start count after (part start count words) (omega (arith, same.size, same.fits)) counted
      (λ y h. same.below (start + y) (omega arith) ∙ sym (part_at start count words y h))
    where
      counted : length (part start count words) ≡ count
      counted = part_length start count words (omega (arith, same.fits))

  -- All words from behind the changed part on are as before.
  pub drop_after : (start : ℕ) → from + long ≤ start → drop start after ≡ drop start words
  drop_after start begins =
      ext_get_or 0 (drop start after) (drop start words) (simp length-drop (ap (λ (k : ℕ). k - start) same.size))
      (λ y _. get_or-drop start after y 0 ∙ same.above (start + y) (omega arith) ∙ sym (get_or-drop start words y 0))

  -- A part that begins behind the changed one is as before.
  pub part_after : (start count : ℕ) → from + long ≤ start → part start count after ≡ part start count words
  part_after start count begins = ap (take count) (drop_after start begins)

-- Of rows one after another, with one of them changed, that one is another and the others are as before.
pub rows_changed : (start k long : ℕ) (each : ℕ → List ℕ) (i : ℕ) (new words after : List ℕ)
    → Untouched (start + i * long) long words after → part (start + i * long) long after ≡ new
    → ((j : ℕ) → j < k → part (start + j * long) long words ≡ each j)
    → (j : ℕ) → j < k → part (start + j * long) long after ≡ put each i new j
rows_changed start k long each i new words after same here parts = put_each
    (λ j content. j < k → part (start + j * long) long after ≡ content) each i new (λ _. here)
    (λ j other h. as_before j other ∙ parts j h)
  where
    as_before : (j : ℕ) → (j ≡ i → ⊥) → part (start + j * long) long after ≡ part (start + j * long) long words
    as_before j other = by (ltb j i)
        (λ e. part_before same (start + j * long) long (omega (arith, rows_apart long j i (ltb-true j i e))))
        (λ e. part_after same (start + j * long) long
        (omega (arith, rows_apart long i j (omega (arith, ltb-false j i e)))))

-- ── A part put in ─────────────────────────────────────────────────────

module _ (from long : ℕ) (new words : List ℕ) (size : length new ≡ long) (fits : from + long ≤ length words) where
  -- The words before the part.
  front : length (take from words) ≡ from
  front = simp length-take (omega arith)

  -- From the part on there are the new words and what follows.
  from_part : drop from (splice from long new words) ≡ new ++ drop (from + long) words
  from_part = drop_at (take from words) (new ++ drop (from + long) words) from front

  -- Behind the part all is as before.
  behind_part : drop (from + long) (splice from long new words) ≡ drop (from + long) words
  behind_part =
      sym (drop-drop long from (splice from long new words))
      ∙ ap (drop long) from_part ∙ drop_at new (drop (from + long) words) long size

  -- The part is what was put in.
  pub splice_part : part from long (splice from long new words) ≡ new
  splice_part = ap (take long) from_part ∙ take_at new (drop (from + long) words) long size

  -- Outside the part the words are as before.
  pub splice_untouched : Untouched from long words (splice from long new words)
  splice_untouched = record {
    fits = fits;
    size = simp (length-append, length-take, length-drop) (omega arith);
    below = λ place h. get_or-append (take from words) (new ++ drop (from + long) words) 0 place (omega (arith, front))
        ∙ get_or-take from words place 0 h;
    above = above;
  }
    where
      above : (place : ℕ) → from + long ≤ place → get_or (splice from long new words) place 0 ≡ get_or words place 0
      above place h =
          ap (λ (k : ℕ). get_or (splice from long new words) k 0) split
          ∙ sym (get_or-drop (from + long) (splice from long new words) more 0)
          ∙ ap (λ (rest : List ℕ). get_or rest more 0) behind_part
          ∙ get_or-drop (from + long) words more 0 ∙ ap (λ (k : ℕ). get_or words k 0) (sym split)
        where
          more : ℕ
          more = place - (from + long)

          split : place ≡ from + long + (place - (from + long))
          split = omega arith

-- Words that are the same but for one part are those with that part put in.
pub untouched_is : {from long : ℕ} {words after : List ℕ} → Untouched from long words after
    → after ≡ splice from long (part from long after) words
untouched_is {from} {long} {words} {after} same =
    sym (take-append-drop from after) ∙ ap₂ ◌++◌ (part_before same 0 from (omega arith)) behind
  where
    behind : drop from after ≡ part from long after ++ drop (from + long) words
    behind =
        part_cut from long after
        ∙ ap (λ (rest : List ℕ). part from long after ++ rest) (drop_after same (from + long) (omega arith))
