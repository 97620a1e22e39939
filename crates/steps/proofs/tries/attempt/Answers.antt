-- `steps::tries::attempt` meets its contract: abort 2 first, then abort 3, and else the commit.
use Prim.Native.Nat.{ℕ, ◌+◌, ◌-◌, ◌≤◌}
use mathlib.Core.Path.{◌≡◌, sym, ap, ◌∙◌}
use mathlib.Core.List.{List}
use mathlib.Core.Option.{Option, none}
use native.Mathlib.Omega.{arith}
use lib.ListN.{length, take, drop}
use Rattle.rules.specs.steps.Register.{Setting, Handler, Register}
use Rattle.rules.specs.steps.Figure.{overtaken_cell, spent_cell}
use Rattle.layout.specs.Places.{handler_long}
use Rattle.layout.specs.View.{word_setting, view}
use Rattle.words.specs.Sets.{found_is}
use Rattle.block.specs.Blocks.{Block}
use Rattle.steps.proofs.Lent.{block_lies, block_words, rest_takes}
use Rattle.steps.proofs.Said.{read_among, written_among}
use Rattle.steps.proofs.Trying.{try_overtaken, try_spent, overtaken_told, spent_told}
use Rattle.steps.proofs.Committing.{commit_takes}
use Rattle.steps.proofs.tries.attempt.Goals as goal
use Rattle.steps.proofs.tries.attempt.Goals.{After-block_at-span, After-overtaken, After-spent}

-- The handler's block lies in the words.
lies : (c : After-block_at-span) → let from = c.block_at-span.result.start in
    (from + handler_long c.args.m ≤ length c.args.body.now) × (from ≤ 2640) × (from ≤ c.block_at-span.result.end)
    × (c.block_at-span.result.end ≤ length c.args.body.now)
lies c = omega (arith, block_lies c.requires.seated c.block_at-span.ensures)

-- The rules' answer for the handler of the words at entry.
abbrev ruled : (Setting ℕ → Register ℕ → Handler ℕ → Option ℕ) → (m n : ℕ) → List ℕ → ℕ → Option ℕ
ruled test m n body i = let r = view m n body in test (word_setting m) r (r.handlers i)

-- What the words answered of its reads is what the rules say.
read_answer : (c : After-overtaken) → found_is c.overtaken.result ≡ ruled overtaken_cell c.args.m c.args.n c.args.body.now c.args.i
read_answer c =
    c.overtaken.ensures ∙ overtaken_told c.requires.seated c.block_at-span.ensures.starts c.transaction_numbers.ensures

-- What the words answered of its writes is what the rules say.
write_answer : (c : After-spent) → found_is c.spent.result ≡ ruled spent_cell c.args.m c.args.n c.args.body.now c.args.i
write_answer c =
    c.spent.ensures ∙ spent_told c.requires.seated c.block_at-span.ensures.starts

-- The reads stand, where the writes are looked at.
current : (c : After-spent) → ruled overtaken_cell c.args.m c.args.n c.args.body.now c.args.i ≡ none
current c =
    sym (c.overtaken.ensures ∙ overtaken_told c.requires.seated c.block_at-span.ensures.starts c.transaction_numbers.ensures) ∙ ap found_is
    c.in_default.is

-- What is lent is the words of a block.
block : (c : After-block_at-span) → let args = c.args in
    Block args.m (take (c.block_at-span.result.end - c.block_at-span.result.start) (drop c.block_at-span.result.start args.body.now))
block c = block_words c.requires.seated c.block_at-span.ensures

-- Abort 2.
pub returns-in-Some : goal.returns-in-Some
returns-in-Some c =
    rest_takes c.requires.seated c.block_at-span.ensures
    (try_overtaken _ _ _ _ (sym (read_answer (goal.at.returns-in-Some c).After-overtaken) ∙ ap found_is c.in-Some.is)) c.rest.ensures

-- Abort 3.
pub returns-in-Some-spent : goal.returns-in-Some-spent
returns-in-Some-spent c =
    rest_takes c.requires.seated c.block_at-span.ensures
    (try_spent _ _ _ _ (current (goal.at.returns-in-Some-spent c).After-spent)
    (sym (write_answer (goal.at.returns-in-Some-spent c).After-spent) ∙ ap found_is c.in-Some-spent.is)) c.rest-in-Some-spent.ensures

pub overtaken-requires : goal.overtaken-requires
overtaken-requires c =
    (read_among c.requires.seated c.block_at-span.ensures.starts, omega (arith, lies (goal.at.overtaken-requires c).After-block_at-span))

pub rest-requires : goal.rest-requires
rest-requires c = block (goal.at.rest-requires c).After-block_at-span

pub spent-requires : goal.spent-requires
spent-requires c = written_among c.requires.seated c.block_at-span.ensures.starts

pub rest-requires-in-Some-spent : goal.rest-requires-in-Some-spent
rest-requires-in-Some-spent c = block (goal.at.rest-requires-in-Some-spent c).After-block_at-span

pub returns : goal.returns
returns c =
    commit_takes (current (goal.at.returns c).After-spent) (sym (write_answer (goal.at.returns c).After-spent) ∙ ap found_is c.in_default-spent.is)
    c.commit.ensures
