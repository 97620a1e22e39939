-- What is printed of a file that is too long is told by one byte more than a file may have, whoever answers its steps.
use Rattle.std.proofs.Common.{◌≡◌, ℕ, ◌+◌, List, take, ap}
use Rattle.limits.specs.Limits.{most_file_bytes}
use Rattle.prints.specs.Printed.{played_text, judged_text}
use Rattle.runs.specs.declared.Player as Code
use Rattle.runs.specs.declared.Player.TheVariants.{Register, Judge}
use Rattle.runs.proofs.Fronts.{run_of_front}
use Rattle.piped.specs.Texts.{text_of}

pub text_of_front : (player : Code.Player) (bytes : List ℕ) → text_of player (take (most_file_bytes + 1) bytes) ≡ text_of player bytes
text_of_front Register bytes = ap played_text (run_of_front bytes)
text_of_front Judge bytes = ap judged_text (run_of_front bytes)
