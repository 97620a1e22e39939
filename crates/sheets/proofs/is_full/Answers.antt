-- `sheets::is_full` meets its contract: the counts of the sheet are asked one after another.
use Rattle.std.proofs.Common.{◌≤◌, ◌<◌, rules}
use Rattle.std.proofs.lemmas.Iterator.{cases_from_any, YieldsList-from_slice}
use Rattle.sheets.specs.Sheets.{full_above}
use Rattle.sheets.proofs.Full.{some_told}
use Rattle.sheets.proofs.is_full.Goals as goal

pub returns : goal.returns
returns c = some_told _ _ c.requires (cases_from_any _ _ _ (λ count. full_above < count) (λ count. count ≤ full_above) c.any.ensures.ran
    (YieldsList-from_slice _ (search rules)) (λ count q called. search rules) (λ count q called. search rules))
