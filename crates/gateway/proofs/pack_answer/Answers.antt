-- `gateway::pack_answer` meets its contract: an outcome's numbers, or a refusal's, in one.
use Prim.Native.Nat.{◌+◌, ◌*◌, ◌^◌}
use mathlib.Core.Path.{sym, ap, ◌∙◌}
use native.Mathlib.Omega.{arith}
use Rattle.rules.specs.steps.Replies.{reply_numbers}
use Rattle.replies.specs.Meaning.{reply_is}
use Rattle.gateway.specs.Packed.{packed, reply_number}
use Rattle.gateway.proofs.Apart.{kind_small}
use Rattle.gateway.proofs.pack_answer.Goals as goal

pub pack-requires : goal.pack-requires
unfolding packed
pack-requires c =
    omega (
      arith,
      ap (λ n. n.kind) (c.outcome_numbers-numbers.ensures.replied ∙ ap (λ a. reply_numbers (reply_is a)) (sym c.in-Ok.is)),
      kind_small (reply_is c.args.answer),
    )

pub returns-in-Ok : goal.returns-in-Ok
unfolding packed
returns-in-Ok c = c.pack.ensures ∙ ap packed (c.outcome_numbers-numbers.ensures.replied
    ∙ ap (λ a. reply_numbers (reply_is a)) (sym c.in-Ok.is))

pub returns-in-Err : goal.returns-in-Err
unfolding packed
returns-in-Err c = c.pack-in-Err.ensures ∙ ap (λ number. 4 * 2 ^ 32 + (0 * 65536 + number)) c.refusal_number.ensures.replied
    ∙ ap (λ answer. reply_number (reply_is answer)) (sym c.in-Err.is)
