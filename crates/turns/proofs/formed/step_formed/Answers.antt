-- `turns::step_formed` meets its promise: m and n are read, the body is lent, what it promises the words promise, and a step keeps a
-- register well formed.
use Prim.Native.Nat.{ℕ, ◌-◌}
use mathlib.Core.Path.{◌≡◌, sym, ◌∙◌, subst}
use native.Mathlib.Omega.{arith}
use lib.ListN.{length}
use borrow.Rule.Slice.PartMut.{put_mid}
use Rattle.rules.specs.steps.Codes.{plain_sheet}
use Rattle.layout.specs.Places.{cells_of, handlers_of}
use Rattle.layout.proofs.Kept.{well_long}
use Rattle.layout.proofs.Fronts.{behind_is, register_back}
use Rattle.promises.specs.Bodies.{BodyPromise}
use Rattle.promises.specs.Stepping.{StepPromise}
use Rattle.promises.proofs.Leaves.{step_keeps}
use Rattle.checks.specs.Entries.{entry_says}
use Rattle.turns.specs.Meaning.{turned_is}
use Rattle.turns.proofs.Stepping.{stands, body_steps}
use Rattle.turns.proofs.formed.step_formed.Goals as goal
use Rattle.turns.proofs.formed.step_formed.Goals.{After-turn}

-- What the words promise, of every code with such an entry.
promised : (c : After-turn) (code : ℕ) → let args = c.args in entry_says args.entry ≡ plain_sheet code
    → StepPromise args.words.now args.handler code args.value (turned_is args.handler code c.turn.result)
    (put_mid 2 (length args.words.now - 2) args.words.now c.turn.new.body)
promised c code is =
    let args = c.args in
    let words = args.words.now in
    let turned = c.turn in
    rw (register_back words (omega (arith, well_long c.requires)) turned.new.body)
    (body_steps c.requires
    (subst (λ body. BodyPromise plain_sheet (cells_of words) (handlers_of words) body args.handler code args.value
    (turned_is args.handler code turned.result) turned.new.body)
    (behind_is 2 words) (turned.ensures plain_sheet code (sym (c.kind_in.ensures.replied ∙ is)))))

pub bounds-words-0 : goal.bounds-words-0
bounds-words-0 c = omega (arith, well_long c.requires)

pub overflow_cast-m : goal.overflow_cast-m
overflow_cast-m c = omega (arith, c.requires.range.cells)

pub bounds-words-1 : goal.bounds-words-1
bounds-words-1 c = omega (arith, well_long c.requires)

pub overflow_cast-n : goal.overflow_cast-n
overflow_cast-n c = omega (arith, c.requires.range.handlers)

pub slice_bounds-turn-count : goal.slice_bounds-turn-count
slice_bounds-turn-count c = omega (arith, well_long c.requires)

pub slice_bounds-turn-start : goal.slice_bounds-turn-start
slice_bounds-turn-start c = omega (arith, well_long c.requires)

pub turn-requires : goal.turn-requires
turn-requires c = rw (behind_is 2 c.args.words.now) (stands c.requires)

pub returns : goal.returns
returns c code is =
    (promised (goal.at.returns c).After-turn code is, (step_keeps (promised (goal.at.returns c).After-turn code is) c.requires).well_formed)
