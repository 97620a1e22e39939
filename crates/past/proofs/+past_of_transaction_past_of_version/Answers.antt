-- `past::past_of_transaction` and `past::past_of_version`, which call each other, meet their contracts.
use Rattle.std.proofs.Common.{sym, ◌∙◌, arith}
use Rattle.ledger.proofs.Commits.{last_stood}
use Rattle.past.proofs.Pasts.{source_stood}
use Rattle.past.proofs.Asked.{adds_own, adds_cell, closed_cells, adds_opening, adds_again, adds_version}
use Rattle.past.proofs.+past_of_transaction_past_of_version.Goals as goal
use Rattle.past.proofs.+past_of_transaction_past_of_version.Goals.{past_of_version-then-place-eq0-via-then-place-eq0}
use Rattle.past.proofs.+past_of_transaction_past_of_version.Goals.{past_of_version-then-place-eq0-via-else-place-eq0+then-has}

-- ── A transaction's past ──────────────────────────────────────────────

-- The handler's last commit is asked.
pub past_of_transaction-past_of_version-seen-requires :
    goal.past_of_transaction-past_of_version-seen-requires
past_of_transaction-past_of_version-seen-requires t c =
    let stood = last_stood _ _ _ _ (c.last_own-own.ensures c.args.m) in
    (omega (arith, stood), ((omega arith, omega (arith, stood)), c.requires.closed))

-- Before the first cell.
pub past_of_transaction-loop-c-init : goal.past_of_transaction-loop-c-init
past_of_transaction-loop-c-init t c =
    adds_own _ _ _ _ _ (c.last_own-own.ensures c.args.m) c.past_of_version-seen.ensures

-- The version read is asked.
pub past_of_transaction-past_of_version-seen-requires-in-loop-c :
    goal.past_of_transaction-past_of_version-seen-requires-in-loop-c
past_of_transaction-past_of_version-seen-requires-in-loop-c t c =
    let stood = source_stood _ _ c.source_of.ensures in
    (omega (arith, stood), ((omega arith, omega (arith, stood)), closed_cells _ _ _ _ _ _ c.requires.closed c.loop-c.invariant))

-- One more cell.
pub past_of_transaction-loop-c-preserved : goal.past_of_transaction-loop-c-preserved
past_of_transaction-loop-c-preserved t c =
    adds_cell _ _ _ _ _ _ c.loop-c.invariant (rw c.source_of.ensures at c.past_of_version-seen-in-loop-c.ensures)

-- ── A version's past ──────────────────────────────────────────────────

-- The opening, and a commit that is marked.
pub past_of_version-returns-then-place-eq0 : goal.past_of_version-returns-then-place-eq0
past_of_version-returns-then-place-eq0 t c =
    elim c.then-place-eq0.branch [
      | past_of_version-then-place-eq0-via-then-place-eq0 w ↦ rw w.if-place-eq0.true (adds_opening _ _ _)
      | past_of_version-then-place-eq0-via-else-place-eq0+then-has w ↦ adds_again _ _ _ _ c.requires.closed (sym w.has.ensures ∙ w.if-has.true)
    ]

-- Any other is marked after its transaction's past.
pub past_of_version-returns : goal.past_of_version-returns
past_of_version-returns t c =
    adds_version _ _ _ (omega arith) c.commit-row.ensures c.head.ensures c.first.ensures c.past_of_transaction-seen.ensures c.with.ensures
