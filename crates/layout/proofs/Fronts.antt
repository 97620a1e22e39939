-- What stands in front of a body: words cut behind so many, and put together again.
use Prim.Native.Nat.{ℕ, ◌+◌, ◌-◌, ◌≤◌}
use mathlib.Core.Path.{◌≡◌, sym, ap, ap₂, ◌∙◌}
use mathlib.Core.List.{List, [], ◌∷◌, ◌++◌, append_assoc, append-nil}
use native.Mathlib.Omega.{arith}
use lib.ListN.{length, length-drop, take, drop, take-append-drop}
use lib.Seq.{drop-cons, drop-drop, take-add, take_all, drop-length}
use borrow.Rule.Slice.PartMut.{put_mid, Post-is}
use Rattle.layout.specs.Rows.{splice}
use Rattle.layout.specs.Places.{cells_of, handlers_of}

-- A part put in behind the front is put in so much further on.
pub splice_behind : (front from long : ℕ) (new words : List ℕ)
    → take front words ++ splice from long new (drop front words) ≡ splice (front + from) long new words
splice_behind front from long new words =
    sym (append_assoc (take front words) (take from (drop front words)) (new ++ drop (from + long) (drop front words)))
    ∙ ap₂ (λ (before rest : List ℕ). before ++ (new ++ rest)) (sym (take-add front from words)) (drop-drop (from + long) front words ∙ place)
  where
    place : drop (front + (from + long)) words ≡ drop (front + from + long) words
    place = ap (λ (k : ℕ). drop k words) (let same : front + (from + long) ≡ front + from + long = omega arith in same)

-- The first two words are m and n.
pub counts_front : (words : List ℕ) → 2 ≤ length words → take 2 words ≡ cells_of words ∷ handlers_of words ∷ []
counts_front words some =
    ap (take 2) (drop-cons words 0 0 (omega arith) ∙ ap (λ (rest : List ℕ). cells_of words ∷ rest) (drop-cons words 1 0 (omega arith)))

-- Words are m, n and what is behind them.
pub register_front : (words : List ℕ) → 2 ≤ length words → cells_of words ∷ handlers_of words ∷ drop 2 words ≡ words
register_front words some =
    ap (λ (front : List ℕ). front ++ drop 2 words) (sym (counts_front words some)) ∙ take-append-drop 2 words

-- All words behind the front, as they are lent, are what the front leaves.
pub behind_is : (front : ℕ) (words : List ℕ) → take (length words - front) (drop front words) ≡ drop front words
behind_is front words = take_all (length words - front) (drop front words) (omega (arith, length-drop front words))

-- What comes back of all words behind the front stands behind the front again.
pub behind_back : (front : ℕ) (words : List ℕ) → front ≤ length words → (last : List ℕ)
    → put_mid front (length words - front) words last ≡ take front words ++ last
behind_back front words some last =
    ap (λ (rest : List ℕ). take front words ++ (last ++ rest)) (Post-is front (length words) words some ∙ drop-length words)
    ∙ ap (λ (rest : List ℕ). take front words ++ rest) (append-nil last)

-- What comes back of all words behind m and n stands behind them again.
pub register_back : (words : List ℕ) → 2 ≤ length words → (last : List ℕ)
    → put_mid 2 (length words - 2) words last ≡ cells_of words ∷ handlers_of words ∷ last
register_back words some last = behind_back 2 words some last ∙ ap (λ (front : List ℕ). front ++ last) (counts_front words some)
