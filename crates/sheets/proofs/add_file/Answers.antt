-- `sheets::add_file` meets its promise: words that are too few and a file that is refused are left as they are; any other file is added.
use Rattle.std.proofs.Common.{◌≡◌, sym, ap, ◌∙◌, arith, rules, Err}
use Rattle.schedule.specs.Meaning.{admission_is}
use Rattle.sheets.proofs.Adds.{add_bad}
use Rattle.sheets.proofs.add_file.Goals as goal

pub add_admitted-requires : goal.add_admitted-requires
add_admitted-requires c = (omega arith, ap admission_is (sym c.in_ok-sizes.was) ∙ c.admit_file.ensures.replied)

pub returns-in_err-sizes : goal.returns-in_err-sizes
returns-in_err-sizes c =
    let refused : c.from_residual.result ≡ Err c.in_err-sizes.field-0.0 = search rules in
    rw refused (add_bad _ _ (omega arith) (ap admission_is (sym c.in_err-sizes.was) ∙ c.admit_file.ensures.replied))
