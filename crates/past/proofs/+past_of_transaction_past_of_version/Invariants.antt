-- `past::past_of_transaction` and `past::past_of_version`, which call each other, end. The commit place falls: a version at place p has the
-- measure 2 p, a transaction over the first n commits has 2 n + 1.
use Rattle.std.proofs.Common.{◌+◌}
use Rattle.ledger.specs.Entries.{entry_in}
use Rattle.past.proofs.Asked.{AddsCells}
use Rattle.past.proofs.+past_of_transaction_past_of_version.Given as goal

-- ── What falls ────────────────────────────────────────────────────────

abbrev pub decreases-past_of_transaction : goal.decreases-past_of_transaction
decreases-past_of_transaction l = l.history.count + l.history.count + 1

abbrev pub decreases-past_of_version : goal.decreases-past_of_version
decreases-past_of_version l = l.place + l.place

-- ── The cells ─────────────────────────────────────────────────────────

abbrev pub invariant-past_of_transaction-loop-c : goal.invariant-past_of_transaction-loop-c
invariant-past_of_transaction-loop-c l =
    AddsCells l.m l.history.words.now l.history.count l.handler (entry_in l.row.words.now l.row.index) l.c l.fn.marks.0 l.seen.0
