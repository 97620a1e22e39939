-- For internal contracts alone. What a turn comes to, as the rules' reply to whoever asked.
use Rattle.std.specs.Prelude.{ℕ, Result, Ok, Err}
use Rattle.rules.specs.steps.Replies as Rules
use Rattle.replies.specs.Meaning.{outcome_is, refusal_is}
use Rattle.replies.specs.declared.Outcome.{Outcome}
use Rattle.replies.specs.declared.Refusal.{Refusal}

-- The reply to a handler's step by a code.
abbrev pub turned_is : ℕ → ℕ → Result Outcome Refusal → Rules.Reply ℕ
turned_is handler code (Ok outcome) = Rules.reported (record { handler = handler; code = code; outcome = outcome_is outcome })
turned_is handler code (Err refusal) = Rules.Reply.refused (refusal_is refusal)
