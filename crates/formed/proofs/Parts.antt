-- What is looked at of the words: spans of two tables are tables of numbers, the cells' by halves; and a block is its front and numbers.
use Rattle.std.proofs.Common.{ℕ, ◌+◌, ◌*◌, ◌-◌, ◌/◌, ◌^◌, ◌≤◌, ◌<◌, ◌≡◌, ◌↔◌, inl, inr, eqb, IsTrue, bit_or, List, length, length-drop, get_or}
use Rattle.std.proofs.Common.{get_or-drop, ◌++◌, take, drop, drop_at, drop-drop, get_or-take, length-append, length-take, lt_of_mul-lt-mul_right}
use Rattle.std.proofs.Common.{refl, sym, ap, ◌∙◌, arith, eqb-true, eq-eqb}
use Rattle.std.proofs.Math.Logic.Iff
use Rattle.std.proofs.lemmas.Bool.{cases_lt}
use Rattle.std.proofs.lemmas.List.{get_or_append_left}
use Rattle.layout.specs.Rows.{part}
use Rattle.layout.specs.Places.{cell_long, handler_long, body_long, cell_start, handler_start, cell_part, handler_part, number_in}
use Rattle.layout.specs.Places.{phase_in, read_set_in, written_set_in, handler_number_in, transaction_number_in}
use Rattle.layout.specs.WellFormed.{NoBitFrom}
use Rattle.layout.proofs.Rows.{part_at, part_is, rows_apart}
use Rattle.layout.proofs.Fronts.{behind_is}
use Rattle.layout.proofs.Places.{handler_fits}
use Rattle.places.proofs.Lent.{lent}
use Rattle.formed.specs.Seen.{Fit, SpanFits, NumbersFit, GoodFront}
use Rattle.formed.proofs.Bits.{EachBelow, Told, over_sets}

-- ── Spans ─────────────────────────────────────────────────────────────

-- From a place on, so many words hold a table.
abbrev Holds : ℕ → ℕ → List ℕ → (ℕ → ℕ) → Type 0
Holds from long words numbers = (y : ℕ) → y < long → get_or words (from + y) 0 ≡ numbers y

-- A span of two tables fits just when what they hold there does.
span_tables : (first second : List ℕ) {from to : ℕ} (long : ℕ) → to ≡ from + long → {numbers numbers' : ℕ → ℕ}
    → Holds from long first numbers → Holds from long second numbers' → SpanFits first second from to ↔ (Fit long numbers × Fit long numbers')
span_tables first second {from} {to} long ends {numbers} {numbers'} holds holds' = (there, back)
  where
    there : SpanFits first second from to → Fit long numbers × Fit long numbers'
    there fit = (
      λ y h. omega (arith, holds y h, (fit (from + y) (omega arith) (omega arith)).0),
      λ y h. omega (arith, holds' y h, (fit (from + y) (omega arith) (omega arith)).1),
    )

    back : Fit long numbers × Fit long numbers' → SpanFits first second from to
    back (fit, fit') y h l = rw (← place) (rw (holds _ inside) (fit _ inside), rw (holds' _ inside) (fit' _ inside))
      where
        place : from + (y - from) ≡ y
        place = omega arith

        inside : y - from < long
        inside = omega arith

-- All words from a place on, as they are lent.
abbrev pub behind : ℕ → List ℕ → List ℕ
behind ahead words = lent ahead (length words) words

-- They are so many fewer.
pub behind_length : (ahead : ℕ) (words : List ℕ) → length (behind ahead words) ≡ length words - ahead
behind_length ahead words = ap length (behind_is ahead words) ∙ length-drop ahead words

-- A word of them stands so much further on in the words.
behind_at : (ahead : ℕ) (words : List ℕ) (place : ℕ) → get_or (behind ahead words) place 0 ≡ get_or words (ahead + place) 0
behind_at ahead words place = ap (λ (rest : List ℕ). get_or rest place 0) (behind_is ahead words) ∙ get_or-drop ahead words place 0

-- ── Cells ─────────────────────────────────────────────────────────────

-- The numbers of cell c fit, and those of the cell that is half of all cells further on.
abbrev pub PairFits : ℕ → List ℕ → ℕ → Type 0
PairFits m body c = Fit m (number_in (cell_part m body c)) × Fit m (number_in (cell_part m body (m / 2 + c)))

-- A word of a part stands so much further on in the words.
in_part : (start long : ℕ) (words : List ℕ) {place : ℕ} (y : ℕ) → y < long → place ≡ start + y → get_or words place 0 ≡ get_or (part start long words) y 0
in_part start long words y h e = ap (λ (place : ℕ). get_or words place 0) e ∙ sym (part_at start long words y h)

-- Behind the value of cell c the span holds its numbers, and half of all cells further on those of the other.
pub cell_span : (m : ℕ) (body : List ℕ) (c : ℕ) {at ahead next : ℕ} → at ≡ cell_start m c → ahead ≡ cell_start m (m / 2) → next ≡ at + cell_long m
    → SpanFits body (behind ahead body) (at + 1) next ↔ PairFits m body c
cell_span m body c {at} {ahead} here there onward = span_tables body (behind ahead body) m (omega arith)
    (λ y h. in_part (cell_start m c) (cell_long m) body (1 + y) (omega arith) (omega arith))
    (λ y h. behind_at ahead body (at + 1 + y) ∙ in_part (cell_start m (m / 2 + c)) (cell_long m) body (1 + y) (omega arith) (omega arith))

-- All rows are good just when those of the first half are and, beside them, those of the second.
halves : (m : ℕ) (Good : ℕ → Type 0) → EachBelow ((m + 1) / 2) (λ c. Good c × Good (m / 2 + c)) ↔ EachBelow m Good
halves m Good = (to, λ good c h. (good c (omega arith), good (m / 2 + c) (omega arith)))
  where
    to : EachBelow ((m + 1) / 2) (λ c. Good c × Good (m / 2 + c)) → EachBelow m Good
    to good c h = elim (cases_lt c ((m + 1) / 2)) [
      | inl front ↦ (good c front).0
      | inr behind ↦ let place : m / 2 + (c - m / 2) ≡ c = omega arith in rw (← place) (good (c - m / 2) (omega arith)).1
    ]

-- Bits that tell of half of the cells and of those beside them tell of all cells.
pub cells_told : (m : ℕ) (body : List ℕ) {bits over : ℕ} → Told bits (PairFits m body) ((m + 1) / 2) over
    → (over ≤ 65535) ↔ ((bits ≤ 65535) × EachBelow m (λ c. Fit m (number_in (cell_part m body c))))
cells_told m body told = Iff.trans told (Iff.and Iff.rfl (halves m _))

-- ── Blocks ────────────────────────────────────────────────────────────

-- The words of the blocks from block i on.
abbrev pub blocks_left : ℕ → ℕ → List ℕ → ℕ → List ℕ
blocks_left m n body i = drop (i * handler_long m) (take (n * handler_long m) (drop (handler_start m 0) body))

-- A block that comes off them is that of handler i, and the blocks behind it are left.
pub block_next : (m n : ℕ) (body : List ℕ) (i : ℕ) {block rest : List ℕ} → body_long m n ≤ length body → length block ≡ handler_long m
    → blocks_left m n body i ≡ block ++ rest → (i < n) × (handler_part m body i ≡ block) × (rest ≡ blocks_left m n body (i + 1))
block_next m n body i {block} {rest} fits size cut = (below, part_is (handler_start m i) long body block inside size each, behind)
  where
    long : ℕ
    long = handler_long m

    left : length (blocks_left m n body i) ≡ long + length rest
    left = ap length cut ∙ length-append block rest ∙ ap (λ k. k + length rest) size

    below : i < n
    below = lt_of_mul-lt-mul_right long (omega (arith, simp (length-drop, length-take) at left))

    inside : handler_start m i + long ≤ length body
    inside = omega (arith, handler_fits m n i below)

    each : (y : ℕ) → y < long → get_or body (handler_start m i + y) 0 ≡ get_or block y 0
    each y h =
        ap (λ (place : ℕ). get_or body place 0) (let same : handler_start m i + y ≡ handler_start m 0 + (i * long + y) = omega arith in same)
        ∙ sym (let lies : i * long + y < n * long = omega (arith, rows_apart long i n below) in rw (get_or-drop, get_or-take, get_or-drop))
        ∙ ap (λ (words : List ℕ). get_or words y 0) cut ∙ get_or_append_left block rest 0 y (omega arith)

    behind : rest ≡ blocks_left m n body (i + 1)
    behind =
        sym (drop_at block rest long size) ∙ ap (drop long) (sym cut) ∙ drop-drop long (i * long) (take (n * long) (drop (handler_start m 0) body))
        ∙ ap (λ (place : ℕ). drop place (take (n * long) (drop (handler_start m 0) body)))
        (let next : i * long + long ≡ (i + 1) * long = omega arith in next)

-- Where fewer words than a block's are left, all blocks are passed.
pub blocks_end : (m n : ℕ) (body : List ℕ) (i : ℕ) {left : List ℕ} → body_long m n ≤ length body → left ≡ blocks_left m n body i
    → length left < handler_long m → n ≤ i
blocks_end m n body i {left} fits cut few = elim (cases_lt i n) [ inl more ↦ absurd (out more) | inr all ↦ all ]
  where
    size : length left ≡ n * handler_long m - i * handler_long m
    size = ap length cut ∙ simp (length-drop, length-take) (omega arith)

    out : i < n → ⊥
    out more = omega (arith, size, few, rows_apart (handler_long m) i n more)

-- Behind its front a block's span holds the handler's numbers, and m words further on those of its transaction.
pub block_span : (m : ℕ) (block : List ℕ) {ahead to : ℕ} → ahead ≡ m → to ≡ 3 + m → SpanFits block (behind ahead block) 3 to ↔ NumbersFit m block
block_span m block {ahead} there onward = span_tables block (behind ahead block) m onward first second
  where
    first : Holds 3 m block (handler_number_in block)
    first y h = refl

    second : Holds 3 m (behind ahead block) (transaction_number_in m block)
    second y h = behind_at ahead block (3 + y) ∙ ap (λ (place : ℕ). get_or block place 0) (let same : ahead + (3 + y) ≡ 3 + m + y = omega arith in same)

-- A front is good just when its phase is and nothing of its two sets, laid over each other, is left from bit m on.
pub front_good : (last m : ℕ) (block : List ℕ) → phase_in block ≤ last
    → IsTrue (eqb (bit_or (read_set_in block) (written_set_in block) / 2 ^ m) 0) ↔ GoodFront last m block
front_good last m block low = (λ e. (low, sets.0 (eqb-true _ 0 e)), λ good. eq-eqb _ 0 (sets.1 good.1))
  where
    sets : (bit_or (read_set_in block) (written_set_in block) / 2 ^ m ≡ 0) ↔ (NoBitFrom m (read_set_in block) × NoBitFrom m (written_set_in block))
    sets = over_sets m (read_set_in block) (written_set_in block)
