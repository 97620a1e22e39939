-- A file that is too long comes to the same whatever follows: one byte more than a file may have shows it.
use Rattle.std.proofs.Common.{◌≡◌, ℕ, ◌+◌, ◌<◌, List, length}
use Rattle.std.proofs.Common.{take, sym, ap, ◌∙◌, ⊎_elim, take_all, length-take-le, arith}
use Rattle.std.proofs.lemmas.Bool.{cases_lt}
use Rattle.rules.specs.steps.Replies.{bad_file}
use Rattle.limits.specs.Limits.{most_file_bytes}
use Rattle.schedule.specs.Admitting.{Admission, admission_of}
use Rattle.schedule.proofs.Sounds.{not_sound_file}
use Rattle.schedule.proofs.Admits.{admitted_bad}
use Rattle.runs.specs.ByRules.{Played, played_by, run_of}

-- A file that is too long is refused.
too_long_refused : (file : List ℕ) → most_file_bytes < length file → run_of file ≡ Played.refused bad_file
unfolding run_of played_by
too_long_refused file long =
    let refused : admission_of file ≡ Admission.refused bad_file =
    sym (admitted_bad (sym (not_sound_file (λ sound. omega (arith, long, sound.short))))).replied in
    ap (played_by file) refused

-- What bytes come to is told by as many of them as a file may have, and one more.
pub run_of_front : (bytes : List ℕ) → run_of (take (most_file_bytes + 1) bytes) ≡ run_of bytes
run_of_front bytes =
    ⊎_elim
    (λ long. let all = length-take-le (most_file_bytes + 1) bytes (omega (arith, long)) in
    too_long_refused (take (most_file_bytes + 1) bytes) (omega (arith, all)) ∙ sym (too_long_refused bytes long))
    (λ short. ap run_of (take_all (most_file_bytes + 1) bytes (omega (arith, short))))
    (cases_lt most_file_bytes (length bytes))
