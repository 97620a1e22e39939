-- `schedule::sound::Sound::all_whole` meets its contract: each script is looked at.
use Rattle.std.proofs.Common.{ℕ, ◌≡◌, true, false, refl, arith, rules}
use Rattle.std.proofs.lemmas.Iterator.{cases_from_all, YieldsList-from_range}
use Rattle.schedule.specs.Sound.{script_in}
use Rattle.schedule.specs.Scripts.{is_whole}
use Rattle.schedule.proofs.Admits.{every_answer}
use Rattle.schedule.proofs.sound.Sound.all_whole.Goals as goal

pub returns : goal.returns
returns c =
    let sound = c.args.self.now in
    let n = sound.sizes.handlers in
    let test = λ (handler : ℕ). is_whole (script_in sound.table.file.now handler) in
    rw (← sound.handlers) (every_answer n test _
    (cases_from_all _ _ _ (λ handler. test handler ≡ true) (λ handler. test handler ≡ false) c.all.ensures.ran
    (YieldsList-from_range 0 n n refl (omega arith)) (λ handler q called. search rules) (λ handler q called. search rules)))
