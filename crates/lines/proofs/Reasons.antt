-- How long the number of a reason is.
use Rattle.std.proofs.Common.{◌≤◌, length, arith}
use Rattle.rules.specs.steps.Replies.{Reason, torn, overtaken, spent, gave_up, reason_number}
use Rattle.text.specs.Bytes.{decimal}
use Rattle.text.proofs.Decimals.{decimal_short}

-- It has one digit.
pub reason_short : (reason : Reason) → length (decimal (reason_number reason)) ≤ 1
reason_short (torn y) = decimal_short 0 1 (omega arith)
reason_short (overtaken y) = decimal_short 0 2 (omega arith)
reason_short (spent y) = decimal_short 0 3 (omega arith)
reason_short gave_up = decimal_short 0 5 (omega arith)
