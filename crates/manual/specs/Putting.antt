-- What it means to put the page of step codes into a lent buffer.
use Rattle.std.specs.Prelude.{ℕ, List}
use Rattle.rules.specs.Promise.{Due, Promise}
use Rattle.rules.specs.steps.Codes.{plain_sheet}
use Rattle.text.specs.Lies.{putting}
use Rattle.manual.specs.Page.{codes_page}

-- What putting the page into a buffer comes to: it is that of the plain sheet.
abbrev pub putting_codes : List ℕ → Due ℕ (List ℕ)
putting_codes = putting (codes_page plain_sheet)

-- THE PROMISE OF THE PAGE OF CODES.
abbrev pub CodesPromise : List ℕ → ℕ → List ℕ → Type 0
CodesPromise buffer reply after = Promise putting_codes buffer reply after
