-- What is printed of a file, by who answers its steps, and what it means to put it into a lent buffer.
use Rattle.std.specs.Prelude.{ℕ, List}
use Rattle.rules.specs.Promise.{Promise}
use Rattle.runs.specs.declared.Player as Code
use Rattle.runs.specs.declared.Player.TheVariants.{Register, Judge}
use Rattle.prints.specs.Printed.{printed, judged_printed, printing}

-- Everything that is printed of a file, by the register or by the judge.
abbrev pub text_of : Code.Player → List ℕ → List ℕ
text_of Register = printed
text_of Judge = judged_printed

-- The promise of putting it into a buffer.
abbrev pub TextPromise : Code.Player → List ℕ → List ℕ → ℕ → List ℕ → Type 0
TextPromise player file buffer reply after =
    Promise (printing (text_of player)) (record { file = file; buffer = buffer }) reply after
