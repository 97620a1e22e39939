-- What storing cells does, cell after cell: whatever register the words held, they hold it with the cells that are done stored.
use Prim.Native.Nat.{ℕ, ◌+◌, ◌*◌, ◌≤◌, ◌<◌}
use mathlib.Core.Path.{◌≡◌, refl, ap, ◌∙◌, subst, fun_ext}
use mathlib.Core.Bool.{Bool, true, false}
use mathlib.Core.List.{List}
use native.Mathlib.Omega.{arith}
use lib.Dec.{eqb}
use lib.ListN.{length, get_or, set, length-set}
use lib.Seq.{get_or-set_same, get_or-set_other}
use borrow.Author.Tests.{eqb-true}
use Rattle.rules.specs.steps.Tables.{put}
use Rattle.rules.specs.steps.Register.{Cell, Register}
use Rattle.rules.proofs.steps.Tables.{by}
use Rattle.layout.specs.Bits.{has_bit}
use Rattle.layout.specs.Rows.{part, splice, Untouched}
use Rattle.layout.specs.Places.{cell_long, cell_start}
use Rattle.layout.specs.View.{pour_cell}
use Rattle.layout.proofs.Rows.{part_length, part_at}
use Rattle.layout.proofs.Places.{cell_ends}
use Rattle.layout.proofs.Blocks.{cell_is, poured_cell}
use Rattle.layout.proofs.Untouched.{untouched_is, splice_untouched}
use Rattle.layout.proofs.OneHandler.{with_cell, cell_put}
use Rattle.words.specs.Rows.{Changed}
use Rattle.words.specs.Sets.{Lowest, Without}
use Rattle.stores.specs.Stores.{Behind, stored_where, Stores}
use Rattle.stores.proofs.Taken.{taken, LeftOf, taken_none, no_cell, taken_all, left_all, cell_low, left_less, taken_more}

-- A cell's words lie in front of a row that is behind the cells.
pub cell_before : {m set row c : ℕ} {body : List ℕ} → Behind m set row body → c < m → cell_start m c + cell_long m ≤ row
cell_before {m} {c = c} behind low = omega (arith, cell_ends m c low, behind.cells)

-- ── One cell ──────────────────────────────────────────────────────────

-- The cell that takes a value of one row behind the cells and the numbers of another.
abbrev pub cell_from : List ℕ → ℕ → ℕ → ℕ → Cell ℕ
cell_from words copies held c = record { value = get_or words (copies + c) 0; numbers = λ y. get_or words (held + y) 0 }

-- With a value stored in front of a cell's words and a row copied behind it, the words are those with that cell put in.
pub cell_stored : (m c start copies held : ℕ) (words after : List ℕ) → start ≡ cell_start m c → c < m → Behind m 0 held words
    → let first = set words (start + 0) (get_or words (copies + c) 0) in
    Changed (start + 1) m (λ y. get_or first (held + y) 0) first after
    → after ≡ splice (cell_start m c) (cell_long m) (pour_cell m (cell_from words copies held c)) words
cell_stored m c start copies held words after begins low behind changed =
    untouched_is same ∙ ap (λ new. splice start (cell_long m) new words) here
    ∙ ap (λ place. splice place (cell_long m) (pour_cell m (cell_from words copies held c)) words) begins
  where
    value : ℕ
    value = get_or words (copies + c) 0

    before : start + cell_long m ≤ held
    before = omega (arith, cell_before behind low, begins)

    other : (place : ℕ) → (place ≡ start + 0 → ⊥) → get_or (set words (start + 0) value) place 0 ≡ get_or words place 0
    other place ne = get_or-set_other words (start + 0) place value 0 ne

    same : Untouched start (cell_long m) words after
    same = record {
      fits = omega (arith, before, behind.fits);
      size = changed.untouched.size ∙ length-set words (start + 0) value;
      below = λ place h. changed.untouched.below place (omega arith) ∙ other place (omega arith);
      above = λ place h. changed.untouched.above place (omega arith) ∙ other place (omega arith);
    }

    front : get_or after (start + 0) 0 ≡ value
    front = changed.untouched.below (start + 0) (omega arith) ∙ get_or-set_same words (start + 0) value 0 (omega (arith, before, behind.fits))

    number : (y : ℕ) → y < m → get_or after (start + (1 + y)) 0 ≡ get_or words (held + y) 0
    number y h = ap (λ k. get_or after k 0) (let next : start + (1 + y) ≡ start + 1 + y = omega arith in next)
        ∙ changed.inside y h ∙ other (held + y) (omega (arith, before))

    here : part start (cell_long m) after ≡ pour_cell m (cell_from words copies held c)
    here = cell_is m (cell_from words copies held c) (part start (cell_long m) after) (record {
      size = part_length start (cell_long m) after (omega (arith, before, behind.fits, same.size));
      value = part_at start (cell_long m) after 0 (omega arith) ∙ front;
      numbers = λ y h. part_at start (cell_long m) after (1 + y) (omega arith) ∙ number y h;
    })

-- ── The register ──────────────────────────────────────────────────────

module _ (copies numbers : ℕ → ℕ) (r : Register ℕ) where
  -- With no cell stored, the register is as it was.
  pub stored_none : stored_where (λ y. false) copies numbers r ≡ r
  unfolding stored_where
  stored_none = refl

  -- With one more cell stored, it is the register with that cell.
  pub stored_more : (done : ℕ → Bool) (c : ℕ)
      → stored_where (put done c true) copies numbers r
      ≡ with_cell (stored_where done copies numbers r) c (record { value = copies c; numbers = numbers })
  unfolding stored_where put
  stored_more done c = λ d. record { cells = cells d; handlers = r.handlers }
    where
      cells : (stored_where (put done c true) copies numbers r).cells
          ≡ put (stored_where done copies numbers r).cells c (record { value = copies c; numbers = numbers })
      cells = fun_ext (λ j. by (eqb j c) (λ e. rw (e, eqb-true j c e)) (λ e. rw e))

-- ── The words ─────────────────────────────────────────────────────────

-- Some cells of the written set are left, and the others are stored; behind the cells the words are as before.
pub record Storing (m written left copies held : ℕ) (words after : List ℕ) : Type 0 where
  pub leaves : LeftOf written left
  pub stores : Stores m (taken written left) (λ c. get_or words (copies + c) 0) (λ y. get_or words (held + y) 0) words after
  pub behind : (place : ℕ) → m * cell_long m ≤ place → get_or after place 0 ≡ get_or words place 0

-- One more cell is stored.
pub stores_more : {m : ℕ} {done : ℕ → Bool} {copies numbers : ℕ → ℕ} {words before after : List ℕ} (c : ℕ) → c < m
    → Stores m done copies numbers words before → length after ≡ length before
    → after ≡ splice (cell_start m c) (cell_long m) (pour_cell m (record { value = copies c; numbers = numbers })) before
    → Stores m (put done c true) copies numbers words after
stores_more {m} {done} {copies} {numbers} c low stores size e = record {
  size = size ∙ stores.size;
  holds = λ n r rest holds. rw (stored_more copies numbers r done c, e)
      (cell_put (stores.holds n r rest holds) c (record { value = copies c; numbers = numbers }) low);
}

-- While cells are stored, a row behind the cells is behind them still.
pub behind_still : {m written left copies held row : ℕ} {words after : List ℕ} → Behind m written row words
    → Storing m written left copies held words after → Behind m 0 row after
behind_still behind storing = record {
  few = behind.few;
  below = λ c h. no_cell c;
  cells = behind.cells;
  fits = omega (arith, behind.fits, storing.stores.size);
}

module _ {m written copies held : ℕ} {words : List ℕ} (for_held : Behind m written held words) (for_copies : Behind m written copies words) where
  -- Nothing is stored yet.
  pub storing_none : Storing m written written copies held words words
  storing_none = record {
    leaves = left_all written;
    stores = rw (taken_none written) (record {
      size = refl;
      holds = λ n r rest holds. rw (stored_none (λ c. get_or words (copies + c) 0) (λ y. get_or words (held + y) 0) r) holds;
    });
    behind = λ place h. refl;
  }

  module _ {left c : ℕ} {before after : List ℕ} (storing : Storing m written left copies held words before) (lowest : Lowest left c)
      (stored : after ≡ splice (cell_start m c) (cell_long m) (pour_cell m (cell_from before copies held c)) before) where
    -- The cell is one of the m.
    low : c < m
    low = cell_low storing.leaves lowest for_held

    -- The cell that is put in, as the rows behind the cells were at first.
    from_first : cell_from before copies held c ≡ cell_from words copies held c
    from_first = λ d. record {
      value = storing.behind (copies + c) (omega (arith, for_copies.cells)) d;
      numbers = fun_ext (λ y. storing.behind (held + y) (omega (arith, for_held.cells))) d;
    }

    -- Outside the cell the words are as before.
    untouched : Untouched (cell_start m c) (cell_long m) before after
    untouched = rw stored (splice_untouched (cell_start m c) (cell_long m) (pour_cell m (cell_from before copies held c)) before
        (poured_cell m (cell_from before copies held c)).size
        (omega (arith, cell_before for_held low, for_held.fits, storing.stores.size)))

    -- The lowest cell is stored besides.
    pub storing_more : {rest : ℕ} → Without left c rest → Storing m written rest copies held words after
    storing_more without = record {
      leaves = left_less storing.leaves lowest without;
      stores = rw (taken_more storing.leaves lowest without)
          (stores_more c low storing.stores untouched.size
          (stored ∙ ap (λ cell. splice (cell_start m c) (cell_long m) (pour_cell m cell) before) from_first));
      behind = λ place h. untouched.above place (omega (arith, cell_ends m c low)) ∙ storing.behind place h;
    }

-- When none is left, all cells of the set are stored.
pub storing_all : {m written left copies held : ℕ} {words after : List ℕ} → left ≡ 0 → Storing m written left copies held words after
    → Stores m (has_bit written) (λ c. get_or words (copies + c) 0) (λ y. get_or words (held + y) 0) words after
storing_all {m} {written} {left} {copies} {held} {words} {after} none storing =
    subst (λ done. Stores m done (λ c. get_or words (copies + c) 0) (λ y. get_or words (held + y) 0) words after)
    (taken_all written left none) storing.stores
