-- What was begun balances over many files: the runs of a sheet are each the run of a file, each of them balances, and so do all together.
use Prim.Native.Nat.{ℕ, ◌<◌}
use native.Mathlib.Omega.{arith}
use mathlib.Core.Path.{◌≡◌}
use mathlib.Core.List.{List, [], ◌∷◌}
use Rattle.rules.proofs.steps.Tables.{found}
use Rattle.layout.proofs.Rows.{row_at, row_length}
use Rattle.runs.specs.ByRules.{Played, run_of}
use Rattle.sheets.specs.Sheets.{sheet_long, columns, count_at, counted, add_refusal, adding}
use Rattle.sheets.specs.Files.{call, after_files, runs_of, total, replies, open_at_end, empty_sheet, BegunBalances}
use Rattle.sheets.proofs.Counts.{counts_replies}
use Rattle.sheets.proofs.Balance.{Balanced, file_balances}

-- What holds of no runs, and of a file's run in front of runs of which it holds, holds of the runs of a sheet.
pub each_run : (P : List Played → Type 0) → P [] → ((file : List ℕ) (runs : List Played) → P runs → P (run_of file ∷ runs))
    → (words : List ℕ) (files : List (List ℕ)) → P (runs_of words files)
unfolding runs_of
each_run P ends goes words [] = ends
each_run P ends goes words (file ∷ files) =
    let later = each_run P ends goes (adding (call words file)).leaves files in
    found (add_refusal words file) (λ refusal e. rw e later) (λ free. rw free (goes file _ later))

-- The runs of a sheet together balance for every handler.
pub runs_balance : (words : List ℕ) (files : List (List ℕ)) (j : ℕ)
    → let runs = runs_of words files in
    Balanced (λ k. total (replies j k) runs) 0 (total (open_at_end j) runs)
unfolding total
runs_balance words files j =
    each_run (λ runs. Balanced (λ k. total (replies j k) runs) 0 (total (open_at_end j) runs)) (omega arith)
    (λ file runs later. omega (arith, later, file_balances file j)) words files

-- Each count that an empty sheet comes to is the number of such replies.
pub counts_from_none : (files : List (List ℕ)) (handler k : ℕ) → handler < 16 → k < columns
    → counted (after_files empty_sheet files) handler k ≡ total (replies handler k) (runs_of empty_sheet files)
counts_from_none files handler k inside below =
    omega (
      arith,
      counts_replies empty_sheet files handler k (omega (arith, row_length sheet_long (λ _. 0))) inside below,
      row_at sheet_long (λ _. 0) (count_at handler k) (omega arith),
    )

-- From an empty sheet, what was begun was committed, was aborted, or was open at a run's end.
pub begun_balances : BegunBalances
begun_balances files handler inside =
    let count : (k : ℕ) → k < columns → _ = λ k. counts_from_none files handler k inside in
    omega (
      arith,
      runs_balance empty_sheet files handler,
      count 0 (omega arith),
      count 1 (omega arith),
      count 2 (omega arith),
      count 3 (omega arith),
      count 4 (omega arith),
      count 5 (omega arith),
    )
