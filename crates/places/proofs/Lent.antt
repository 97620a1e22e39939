-- A part of the words as it is lent and comes back.
use Prim.Native.Nat.{ℕ, ◌+◌, ◌-◌, ◌≤◌}
use mathlib.Core.Path.{◌≡◌, ap, ap₂, ◌∙◌}
use mathlib.Core.List.{List, ◌++◌}
use native.Mathlib.Omega.{arith}
use lib.ListN.{length, take, drop}
use borrow.Rule.Slice.PartMut.{put_mid, Post-is}
use Rattle.layout.specs.Rows.{part, splice}
use Rattle.layout.proofs.Rows.{part_length}
use Rattle.places.specs.Spans.{Spans}

-- The words from a place to an end.
abbrev pub lent : ℕ → ℕ → List ℕ → List ℕ
lent from to words = take (to - from) (drop from words)

module _ {first long from to : ℕ} (span : Spans first long from to) (words : List ℕ) where
  -- What is lent is the part.
  pub lent_part : lent from to words ≡ part first long words
  lent_part =
      ap₂ (λ (a e : ℕ). take (e - a) (drop a words)) span.starts span.ends
      ∙ ap (λ (k : ℕ). take k (drop first words)) (let count : first + long - first ≡ long = omega arith in count)

  -- What is lent is as long as the part.
  pub lent_length : first + long ≤ length words → length (lent from to words) ≡ long
  lent_length fits = ap length lent_part ∙ part_length first long words fits

  -- What comes back is put in for the part.
  pub lent_back : {last new : List ℕ} → last ≡ new → put_mid from (to - from) words last ≡ splice first long new words
  lent_back {new = new} e =
      ap (put_mid from (to - from) words) e
      ∙ ap₂ (λ (a e : ℕ). put_mid a (e - a) words new) span.starts span.ends
      ∙ ap (λ (rest : List ℕ). take first words ++ (new ++ rest)) (Post-is first (first + long) words (omega arith))
