-- `formed::blocks_bits` meets its contract: the fronts of the blocks passed are good, and what their numbers say is laid over the bits.
use Rattle.std.proofs.Common.{◌≡◌, ◌+◌, ◌<◌, length, arith, sym, ◌∙◌, below_more}
use Rattle.std.proofs.lemmas.List.{length_push}
use Rattle.std.specs.Slice.Iter.{chunks_exact_rest}
use Rattle.rules.proofs.steps.Tables.{both_ways}
use Rattle.layout.specs.Places.{handler_part}
use Rattle.formed.proofs.Bits.{told_more, told_all, told_besides}
use Rattle.formed.proofs.Parts.{blocks_left, block_next, blocks_end, block_span}
use Rattle.formed.proofs.blocks_bits.Goals as goal
use Rattle.formed.proofs.blocks_bits.Goals.{After-good_front}

-- The block at hand is the next handler's, and those behind it are left.
next : (c : After-good_front) → let args = c.args in let passed = length c.loop-block.yielded in
    (passed < args.n) × (handler_part args.m args.body.now passed ≡ c.in-Some.block.now)
    × (chunks_exact_rest c.next.new.self ≡ blocks_left args.m args.n args.body.now (passed + 1))
next c = let loop = c.loop-block.invariant in let steps = c.in-Some.ensures.steps in
    block_next _ _ c.args.body.now _ c.requires.2 (steps.1.1 ∙ loop.whole) (sym loop.rest ∙ steps.1.0)

pub returns-then-not-good_front : goal.returns-then-not-good_front
returns-then-not-good_front c = let (inside, here, _) = next (goal.at.returns-then-not-good_front c).After-good_front in
    λ fronts. both_ways (c.good_front.ensures.1 (rw here at (fronts _ inside))) c.if-not-good_front.true

pub loop-block-preserved : goal.loop-block-preserved
loop-block-preserved c = let (inside, here, left) = next (goal.at.loop-block-preserved c).After-good_front in
    let loop = c.loop-block.invariant in
    rw length_push (record {
      whole = c.in-Some.ensures.steps.0 ∙ loop.whole;
      rest = left;
      within = omega arith;
      fronts = below_more _ _ loop.fronts (rw here (c.good_front.ensures.0 c.if-not-good_front.false));
      numbers = told_more _ _ loop.numbers c.span_bits-bits.ensures (rw here (block_span _ _ (omega arith) (omega arith)));
    })

pub returns : goal.returns
returns c = let loop = c.loop-block.invariant in
    let all = blocks_end c.args.m c.args.n c.args.body.now _ c.requires.2 loop.rest (omega (arith, c.in-None.ensures.steps.1.0, loop.whole)) in
    (λ i h. loop.fronts i (omega arith), told_besides (omega arith) (told_all _ _ loop.numbers loop.within all))
