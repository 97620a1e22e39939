-- `limits::in_range` meets its contract: each test is one of the range.
use Rattle.std.proofs.Common.{refl, arith}
use borrow.Author.Tests.{leb-true, le-leb}
use Rattle.rules.proofs.steps.Given.{range_tested}
use Rattle.rules.proofs.steps.Tables.{same_test}
use Rattle.limits.proofs.in_range.Goals as goal

-- What is left to test.
pub returns : goal.returns
returns c = record {
  replied = same_test _ _
      (λ e. (range_tested _ _).1 (omega (arith, leb-true)))
      (λ e. le-leb _ _ ((range_tested _ _).0 e).handlers);
  left = refl;
}
