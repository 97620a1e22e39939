-- Laws of a sheet with lines: its length, its counts and the words behind it; that words are such a sheet by their counts; and how one
-- line after another is counted.
use Prim.Native.Nat.{ℕ, ◌+◌, ◌*◌, ◌≤◌, ◌<◌}
use mathlib.Core.Path.{◌≡◌, refl, sym, ap, ◌∙◌}
use mathlib.Core.Bool.{true, false}
use mathlib.Core.List.{List, [], ◌∷◌, ◌++◌}
use mathlib.Core.Option.{Option, none, some}
use native.Mathlib.Omega.{arith}
use native.Mathlib.Nat.{zero-add}
use lib.Dec.{eqb, ltb}
use lib.ListN.{length, get_or, drop, length-append, length-drop}
use lib.Seq.{drop_at}
use borrow.Author.Tests.{eqb-true, eqb-false, ne_eqb, ltb-true, ltb-false}
use Rattle.rules.specs.steps.Replies.{Refusal}
use Rattle.rules.proofs.steps.Tables.{by}
use Rattle.layout.specs.Rows.{row, rows, part}
use Rattle.layout.proofs.Rows.{part_at, part_is, row_length, row_at, rows_length, rows_part, rows_cut}
use Rattle.layout.proofs.Untouched.{drop_after}
use Rattle.words.specs.Rows.{Changed}
use Rattle.lines.specs.Lines.{Line, no_step}
use Rattle.runs.specs.ByPlaces.{in_front}
use Rattle.counts.specs.Counting.{is_in, adds}
use Rattle.sheets.specs.Sheets.{raised_for, raises, count_in, columns, sheet_long, count_at, counted, with_lines}

-- ── Its words ─────────────────────────────────────────────────────────

-- The row of a handler, with what some lines add to it.
abbrev row_with : List ℕ → List Line → ℕ → List ℕ
row_with words lines handler = row columns (λ k. counted words handler k + count_in handler k lines)

module _ (words : List ℕ) (lines : List Line) where
  -- Each row has as many words as there are columns.
  row_size : (handler : ℕ) → handler < 16 → length (row_with words lines handler) ≡ columns
  row_size handler inside = row_length columns (λ k. counted words handler k + count_in handler k lines)

  -- The rows together are as long as a sheet.
  rows_size : length (rows 16 (row_with words lines)) ≡ sheet_long
  rows_size = rows_length 16 columns (row_with words lines) row_size

  -- The words behind the sheet are as they were.
  pub with_behind : drop sheet_long (with_lines words lines) ≡ drop sheet_long words
  unfolding with_lines
  with_behind = drop_at (rows 16 (row_with words lines)) (drop sheet_long words) sheet_long rows_size

  -- There are as many words as before.
  pub with_length : sheet_long ≤ length words → length (with_lines words lines) ≡ length words
  unfolding with_lines
  with_length long =
      length-append (rows 16 (row_with words lines)) (drop sheet_long words) ∙ omega (arith, rows_size, length-drop sheet_long words)

  -- Each count is what it was, and what the lines add to it.
  pub counted_with : (handler k : ℕ) → handler < 16 → k < columns
      → counted (with_lines words lines) handler k ≡ counted words handler k + count_in handler k lines
  unfolding with_lines
  counted_with handler k inside among =
      sym (part_at (handler * columns) columns (rows 16 (row_with words lines) ++ drop sheet_long words) k among)
      ∙ ap (λ (r : List ℕ). get_or r k 0) (rows_part 16 columns (row_with words lines) row_size (drop sheet_long words) handler inside)
      ∙ row_at columns (λ j. counted words handler j + count_in handler j lines) k among

  -- Words with these counts, and with the same words behind them, are the sheet with the lines.
  pub with_is : (after : List ℕ) → sheet_long ≤ length after
      → ((handler k : ℕ) → handler < 16 → k < columns → counted after handler k ≡ counted words handler k + count_in handler k lines)
      → drop sheet_long after ≡ drop sheet_long words → after ≡ with_lines words lines
  unfolding with_lines
  with_is after long each behind =
      rows_cut 0 16 columns (row_with words lines) after parts ∙ ap (λ (rest : List ℕ). rows 16 (row_with words lines) ++ rest) behind
    where
      parts : (handler : ℕ) → handler < 16 → part (0 + handler * columns) columns after ≡ row_with words lines handler
      parts handler inside = rw zero-add
          (part_is (handler * columns) columns after (row_with words lines handler) (omega arith) (row_size handler inside)
          (λ k among. each handler k inside among ∙ sym (row_at columns (λ j. counted words handler j + count_in handler j lines) k among)))

-- ── Line by line ──────────────────────────────────────────────────────

module _ (handler k : ℕ) where
  -- A line of the handler adds what its reply adds,
  count_own : (line : Line) → eqb line.handler handler ≡ true
      → count_in handler k (line ∷ []) ≡ adds (raised_for line.code line.reply) k
  unfolding count_in
  count_own line own = rw own (omega arith)

  -- and a line of another adds nothing.
  count_other : (line : Line) → eqb line.handler handler ≡ false → count_in handler k (line ∷ []) ≡ 0
  unfolding count_in
  count_other line other = rw other (omega arith)

  -- A line in front of others is counted with them.
  count_front : (line : Option Line) (lines : List Line)
      → count_in handler k (in_front line lines) ≡ count_in handler k (in_front line []) + count_in handler k lines
  unfolding count_in
  count_front none lines = omega arith
  count_front (some line) lines = omega arith

  -- It adds at most 1.
  pub count_most : (line : Option Line) → count_in handler k (in_front line []) ≤ 1
  unfolding count_in
  count_most none = omega arith
  count_most (some line) = by (raises handler k line) (λ e. rw e (omega arith)) (λ e. rw e (omega arith))

module _ (words : List ℕ) (long : sheet_long ≤ length words) where
  -- Lines that raise no count of the sheet leave it as it was.
  with_still : (lines : List Line) → ((handler k : ℕ) → handler < 16 → k < columns → count_in handler k lines ≡ 0) → words ≡ with_lines words lines
  with_still lines zero = with_is words lines words long (λ handler k inside among. omega (arith, zero handler k inside among)) refl

  -- So does no line,
  pub with_none : words ≡ with_lines words []
  unfolding count_in
  with_none = with_still [] (λ handler k inside among. refl)

  -- the line of a place where no step was taken,
  pub with_no_step : (place handler : ℕ) (refusal : Refusal) → words ≡ with_lines words (no_step place handler refusal ∷ [])
  unfolding is_in
  with_no_step place handler refusal = with_still (no_step place handler refusal ∷ []) (λ i k inside among. by (eqb handler i)
      (count_own i k (no_step place handler refusal))
      (count_other i k (no_step place handler refusal)))

  -- and a line of a handler that has no row.
  pub with_beyond : (line : Line) → 16 ≤ line.handler → words ≡ with_lines words (line ∷ [])
  with_beyond line beyond = with_still (line ∷ [])
      (λ handler k inside among. count_other handler k line (ne_eqb line.handler handler (omega arith)))

  -- A line is counted, and then others: the line is counted in front of them.
  pub with_front : (line : Option Line) (lines : List Line)
      → with_lines (with_lines words (in_front line [])) lines ≡ with_lines words (in_front line lines)
  with_front line lines =
      with_is words (in_front line lines) (with_lines one lines) (omega (arith, size, with_length one lines (omega (arith, size)))) each
      (with_behind one lines ∙ with_behind words (in_front line []))
    where
      one : List ℕ
      one = with_lines words (in_front line [])

      size : length one ≡ length words
      size = with_length words (in_front line []) long

      each : (handler k : ℕ) → handler < 16 → k < columns
          → counted (with_lines one lines) handler k ≡ counted words handler k + count_in handler k (in_front line lines)
      each handler k inside among = omega (
        arith,
        counted_with one lines handler k inside among,
        counted_with words (in_front line []) handler k inside among,
        count_front handler k line lines,
      )

  -- Where the row of a line's handler holds what it held and what the line adds, and all else is as it was, the line is counted.
  pub with_row : (line : Line) {after : List ℕ} → line.handler < 16
      → Changed (line.handler * columns) columns (λ k. counted words line.handler k + adds (raised_for line.code line.reply) k) words after
      → after ≡ with_lines words (line ∷ [])
  with_row line {after} inside changed =
      with_is words (line ∷ []) after (omega (arith, changed.untouched.size)) each (drop_after changed.untouched sheet_long (omega arith))
    where
      elsewhere : (handler k : ℕ) → k < columns → (line.handler ≡ handler → ⊥) → counted after handler k ≡ counted words handler k
      elsewhere handler k among other = by (ltb handler line.handler)
          (λ e. changed.untouched.below (count_at handler k) (omega (arith, ltb-true handler line.handler e)))
          (λ e. changed.untouched.above (count_at handler k) (omega (arith, ltb-false handler line.handler e)))

      each : (handler k : ℕ) → handler < 16 → k < columns
          → counted after handler k ≡ counted words handler k + count_in handler k (line ∷ [])
      each handler k below among = by (eqb line.handler handler)
          (λ e. let is = eqb-true line.handler handler e in
          ap (λ (h : ℕ). counted after h k) (sym is) ∙ changed.inside k among
          ∙ ap (λ (h : ℕ). counted words h k + adds (raised_for line.code line.reply) k) is
          ∙ ap (λ (more : ℕ). counted words handler k + more) (sym (count_own handler k line e)))
          (λ e. omega (arith, elsewhere handler k among (eqb-false line.handler handler e), count_other handler k line e))
