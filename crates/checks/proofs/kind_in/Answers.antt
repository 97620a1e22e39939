-- `checks::kind_in` meets its promise: each arm's number is that of its kind.
use Rattle.std.proofs.Common.{rules, refl}
use Rattle.checks.specs.Entries.{numbered}
use Rattle.checks.proofs.Tables.{says_number, says_none}
use Rattle.checks.proofs.kind_in.Goals as goal

pub returns-in-1 : goal.returns-in-1
unfolding numbered
returns-in-1 c = says_number c.in-1.is refl

pub returns-in-2 : goal.returns-in-2
unfolding numbered
returns-in-2 c = says_number c.in-2.is refl

pub returns-in-3 : goal.returns-in-3
unfolding numbered
returns-in-3 c = says_number c.in-3.is refl

pub returns-in-4 : goal.returns-in-4
unfolding numbered
returns-in-4 c = says_number c.in-4.is refl

pub returns-in-5 : goal.returns-in-5
unfolding numbered
returns-in-5 c = says_number c.in-5.is refl

pub returns-in_default : goal.returns-in_default
returns-in_default c = search (rules, says_none)
