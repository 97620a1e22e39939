-- `summary::put_sheet` meets its promise: handler by handler, each line is put.
use Rattle.std.proofs.Common.{◌*◌, ◌≤◌}
use Rattle.text.specs.Bytes.{in_turn}
use Rattle.text.specs.Pages.{Writes}
use Rattle.sheets.specs.Sheets.{counted}
use Rattle.summary.specs.Texts.{row_text, longest_row}
use Rattle.summary.proofs.put_sheet.Given as goal

abbrev pub invariant-loop-handler : goal.invariant-loop-handler
invariant-loop-handler l =
    (l.handler ≤ 16) × (l.page.end ≤ l.handler * longest_row)
    × Writes (in_turn l.handler (λ h. row_text h (counted l.sheet h))) l.initial.page l.page
