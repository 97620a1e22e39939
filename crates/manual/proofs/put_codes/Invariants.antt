-- `manual::put_codes` meets its promise: behind the heading, code by code, each row is put.
use Rattle.std.proofs.Common.{◌+◌, ◌*◌, ◌≤◌}
use Rattle.rules.specs.steps.Codes.{plain_sheet}
use Rattle.text.specs.Bytes.{in_turn}
use Rattle.text.specs.Pages.{Writes}
use Rattle.manual.specs.Page.{row_text, head_bytes, row_bytes}
use Rattle.manual.proofs.put_codes.Given as goal

abbrev pub invariant-loop-code : goal.invariant-loop-code
invariant-loop-code l =
    (l.code ≤ 256) × (l.page.end ≤ head_bytes + l.code * row_bytes)
    × Writes (in_turn l.code (λ k. row_text k (plain_sheet k))) l.initial.page l.page
