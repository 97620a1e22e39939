-- Nothing wraps: a file that is not refused finds a sheet whose counts are low, and has too few order bytes to lift one of them to 2^32.
use Prim.Native.Nat.{ℕ, ◌+◌, ◌≤◌}
use native.Mathlib.Omega.{arith}
use mathlib.Core.Path.{◌≡◌, refl}
use mathlib.Core.Bool.{false}
use mathlib.Core.List.{List, [], ◌∷◌, ◌++◌}
use mathlib.Core.Option.{none}
use lib.ListN.{length}
use lib.Dec.{ltb}
use borrow.Author.Tests.{ltb-false}
use Rattle.rules.specs.steps.Replies.{too_short, sheet_full}
use Rattle.rules.specs.steps.Checks.{◌when◌}
use Rattle.rules.proofs.steps.Given.{none_holds, none_of_both}
use Rattle.rules.proofs.steps.Tables.{by}
use Rattle.lines.specs.Lines.{Line}
use Rattle.schedule.specs.Sound.{handlers_in, cells_in, table_start, order_in}
use Rattle.schedule.specs.Admitting.{file_checks, file_refusal, admitted, admission_of}
use Rattle.schedule.proofs.Sounds.{body_short}
use Rattle.schedule.proofs.Admits.{good_exactly}
use Rattle.runs.specs.ByRules.{RunState, ordered, run_from, started, played_by, run_of}
use Rattle.sheets.specs.Sheets.{raises, count_in, lines_of, sheet_long, is_full, add_checks, add_refusal}
use Rattle.sheets.specs.Files.{NothingWraps}
use Rattle.sheets.proofs.WithLines.{counted_with}
use Rattle.sheets.proofs.Full.{full_none}
use Rattle.sheets.proofs.Counts.{free_adds}

-- ── A file that is not refused ────────────────────────────────────────

-- What is known where no check refuses a file: the words are a sheet's, the file is let through, and the sheet is not full.
pub record FreeFile (words file : List ℕ) : Type 0 where
  pub enough : sheet_long ≤ length words
  pub good : file_refusal file ≡ none
  pub low : is_full words ≡ false

-- So much is known of every file that no check refuses.
pub free_file : (words file : List ℕ) → add_refusal words file ≡ none → FreeFile words file
unfolding add_refusal add_checks file_refusal
free_file words file free =
    let last = (sheet_full when is_full words) ∷ [] in
    let (short, others) = (none_holds too_short (ltb (length words) sheet_long) (file_checks file ++ last)).0 free in
    let (good, low) = none_of_both (file_checks file) last others in
    record { enough = ltb-false (length words) sheet_long short; good = good; low = ((none_holds sheet_full (is_full words) []).0 low).0 }

-- ── Lines ─────────────────────────────────────────────────────────────

-- Of some lines no more raise a count than there are.
pub counts_few : (handler k : ℕ) (lines : List Line) → count_in handler k lines ≤ length lines
unfolding count_in
counts_few handler k [] = omega arith
counts_few handler k (line ∷ lines) = by (raises handler k line)
    (λ e. rw e (omega (arith, counts_few handler k lines)))
    (λ e. rw e (omega (arith, counts_few handler k lines)))

-- A run has a line for each order byte.
pub run_long : (m n : ℕ) (s : RunState) (place : ℕ) (order : List ℕ) → length (run_from m n s place order).lines ≡ length order
unfolding run_from
run_long m n s place [] = refl
run_long m n s place (handler ∷ order) = rw (run_long m n (ordered m n s place handler).after (place + 1) order)

-- A file that is let through has at most 65,535 lines.
pub lines_few : (file : List ℕ) → file_refusal file ≡ none → length (lines_of (run_of file)) ≤ 65535
unfolding run_of admission_of admitted played_by
lines_few file good =
    let short = ((good_exactly file).0 good).sound.short in
    let n = handlers_in file in
    let m = cells_in file in
    rw good (omega (arith, short, run_long m n (started file m) 0 (order_in file), body_short file table_start n))

-- ── Counts ────────────────────────────────────────────────────────────

-- A file that is not refused leaves each count below 2^32.
pub nothing_wraps : NothingWraps
nothing_wraps words file handler k free inside below =
    let given = free_file words file free in
    let lines = lines_of (run_of file) in
    rw (free_adds words file free)
    (omega (
      arith,
      counted_with words lines handler k inside below,
      counts_few handler k lines,
      lines_few file given.good,
      (full_none words given.low given.enough).each handler k inside below,
    ))
