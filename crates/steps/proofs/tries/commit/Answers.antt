-- `steps::tries::commit` meets its contract: all numbers are stamped, then the written cells are stored, then the block is settled.
use Prim.Native.Nat.{◌+◌, ◌≤◌}
use mathlib.Core.Path.{◌≡◌, refl, ◌∙◌}
use native.Mathlib.Omega.{arith}
use lib.ListN.{length}
use Rattle.layout.specs.Places.{handler_long}
use Rattle.steps.proofs.Lent.{block_lies, block_of}
use Rattle.steps.proofs.Committing.{raisable, row_behind, commits}
use Rattle.steps.proofs.tries.commit.Goals as goal
use Rattle.steps.proofs.tries.commit.Goals.{After-block_at-span, After-store}

-- The handler's block lies in the words.
lies : (c : After-block_at-span) → let from = c.block_at-span.result.start in
    (from + handler_long c.args.m ≤ length c.args.body.now) × (from ≤ 2640) × (from ≤ c.block_at-span.result.end)
    × (c.block_at-span.result.end ≤ length c.args.body.now)
lies c = omega (arith, block_lies c.requires.seated c.block_at-span.ensures)

-- The stored words are as many as before.
stored_long : (c : After-store) → length c.store.new.body ≡ length c.args.body.now
stored_long c = c.store.ensures.size ∙ c.stamp.ensures.untouched.size

-- What is left is the rules' register.
pub returns : goal.returns
returns c =
    commits c.requires.seated c.block_at-span.ensures c.transaction_numbers.ensures c.copies.ensures
    c.stamp.ensures c.store.ensures c.settle.ensures

pub stamp-requires : goal.stamp-requires
stamp-requires c = let seated = c.requires.seated in
    (row_behind seated c.block_at-span.ensures c.transaction_numbers.ensures (omega arith) refl, raisable seated)

pub store-requires : goal.store-requires
store-requires c = let seated = c.requires.seated in
    let size = c.stamp.ensures.untouched.size in (
      row_behind seated c.block_at-span.ensures c.transaction_numbers.ensures (omega arith) size,
      row_behind seated c.block_at-span.ensures c.copies.ensures (omega arith) size,
    )

pub settle-requires : goal.settle-requires
settle-requires c = block_of c.requires.seated c.block_at-span.ensures _ (stored_long (goal.at.settle-requires c).After-store)
