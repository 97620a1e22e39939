-- What a file that is refused, and one that is not, leave of a sheet; and each count over many files.
use Prim.Native.Nat.{ℕ, ◌+◌, ◌≤◌, ◌<◌}
use native.Mathlib.Omega.{arith}
use mathlib.Core.Path.{◌≡◌, ap, ◌∙◌}
use mathlib.Core.List.{List, [], ◌∷◌}
use mathlib.Core.Option.{none}
use lib.ListN.{length}
use Rattle.rules.proofs.steps.Tables.{found}
use Rattle.runs.specs.ByRules.{Played, run_of}
use Rattle.sheets.specs.Sheets.{lines_of, columns, sheet_long, counted, with_lines, add_refusal, added_by, adding}
use Rattle.sheets.specs.Files.{call, after_files, unless_refused, runs_of, total, replies, CountsReplies, RefusedAddsNothing}
use Rattle.sheets.proofs.WithLines.{with_length, counted_with}

-- ── One file ──────────────────────────────────────────────────────────

-- A file that is refused adds nothing.
pub refused_adds_nothing : RefusedAddsNothing
unfolding adding added_by
refused_adds_nothing words file refusal e = rw e

-- A file that is not refused adds the lines of its run.
pub free_adds : (words file : List ℕ) → add_refusal words file ≡ none
    → (adding (call words file)).leaves ≡ with_lines words (lines_of (run_of file))
unfolding adding added_by
free_adds words file free = rw free

module _ (words file : List ℕ) where
  -- The words that adding the file leaves.
  abbrev left : List ℕ
  left = (adding (call words file)).leaves

  -- Adding a file keeps the number of words.
  pub adding_long : sheet_long ≤ length words → length left ≡ length words
  adding_long enough = found (add_refusal words file)
      (λ refusal e. ap length (refused_adds_nothing words file refusal e))
      (λ free. ap length (free_adds words file free) ∙ with_length words (lines_of (run_of file)) enough)

  -- What one file adds to a count, in front of what later runs add.
  adding_counts : (runs : List Played) (handler k : ℕ) → handler < 16 → k < columns
      → counted left handler k + total (replies handler k) runs
      ≡ counted words handler k + total (replies handler k) (unless_refused (add_refusal words file) (run_of file) runs)
  unfolding total
  adding_counts runs handler k inside below = found (add_refusal words file)
      (λ refusal e. rw (e, refused_adds_nothing words file refusal e))
      (λ free. rw (free, free_adds words file free)
      (omega (arith, counted_with words (lines_of (run_of file)) handler k inside below)))

-- ── Many files ────────────────────────────────────────────────────────

-- Each count is what it was and the number of such replies in the runs of the files that were not refused.
pub counts_replies : CountsReplies
unfolding after_files runs_of total
counts_replies words [] handler k enough inside below = omega arith
counts_replies words (file ∷ files) handler k enough inside below =
    let kept : sheet_long ≤ length (adding (call words file)).leaves = omega (arith, adding_long words file enough) in
    counts_replies (adding (call words file)).leaves files handler k kept inside below
    ∙ adding_counts words file (runs_of (adding (call words file)).leaves files) handler k inside below
