-- `steps::single::first_read` meets its contract: the test, and then the block is put to rest, or the numbers are copied out and the cell joins.
use Prim.Native.Nat.{◌+◌, ◌≤◌}
use mathlib.Core.Path.{◌≡◌, sym, ap, ◌∙◌}
use native.Mathlib.Omega.{arith}
use lib.ListN.{length}
use Rattle.rules.specs.steps.Figure.{torn_cell}
use Rattle.layout.specs.Places.{cell_long, handler_long, transaction_from}
use Rattle.layout.specs.View.{word_setting, view}
use Rattle.layout.proofs.Places.{cell_ends}
use Rattle.words.specs.Sets.{found_is}
use Rattle.steps.proofs.Lent.{block_lies, cells_lie, block_words, block_open}
use Rattle.steps.proofs.Said.{read_among}
use Rattle.steps.proofs.FirstReading.{torn_told, torn_takes, read_takes}
use Rattle.steps.proofs.single.first_read.Goals as goal
use Rattle.steps.proofs.single.first_read.Goals.{After-block_at-span, After-torn}

-- The cell lies in the words, and behind it the handler's block.
lies : (c : After-block_at-span) → let from = c.block_at-span.result.start in
    (from + handler_long c.args.m ≤ length c.args.body.now) × (from ≤ 2640) × (from ≤ c.block_at-span.result.end)
    × (c.block_at-span.result.end ≤ length c.args.body.now)
    × (c.cell_at-first.result.start + cell_long c.args.m ≤ from)
lies c =
    let seated = c.requires.ready.seated in
    omega (
      arith,
      block_lies seated c.block_at-span.ensures,
      cells_lie seated c.block_at-span.ensures,
      cell_ends c.args.m c.args.x c.requires.ready.cell,
      c.cell_at-first.ensures.starts,
    )

-- Where the transaction's numbers begin in the block.
placed : (c : After-torn) → c.transaction_numbers.result ≡ transaction_from c.args.m
placed c = c.transaction_numbers.ensures

-- What the words answered is what the rules say.
answer : (c : After-torn) → let args = c.args in
    let r = view args.m args.n args.body.now in
    found_is c.torn.result ≡ torn_cell (word_setting args.m) (r.handlers args.i) (r.cells args.x)
answer c =
    c.torn.ensures
    ∙ torn_told c.requires c.cell_at-first.ensures.starts c.block_at-span.ensures (placed c)

-- Abort 1.
pub returns-in-Some : goal.returns-in-Some
returns-in-Some c =
    torn_takes c.requires c.cell_at-first.ensures.starts c.block_at-span.ensures
    (sym (answer (goal.at.returns-in-Some c).After-torn) ∙ ap found_is c.in-Some.is) c.rest.ensures

-- The cell is read.
pub returns : goal.returns
returns c =
    read_takes c.requires c.cell_at-first.ensures.starts c.block_at-span.ensures c.copy_out-row.ensures
    (sym (answer (goal.at.returns c).After-torn) ∙ ap found_is c.in_default.is) c.version_shows.ensures.replied c.join.ensures

pub torn-requires : goal.torn-requires
torn-requires c = (
  read_among c.requires.ready.seated c.block_at-span.ensures.starts,
  omega (arith, lies (goal.at.torn-requires c).After-block_at-span),
  omega
      (arith, lies (goal.at.torn-requires c).After-block_at-span),
)

pub rest-requires : goal.rest-requires
rest-requires c = block_words c.requires.ready.seated c.block_at-span.ensures

pub copy_out-row-requires : goal.copy_out-row-requires
copy_out-row-requires c = (omega (arith, lies (goal.at.copy_out-row-requires c).After-block_at-span), c.requires.ready.seated.formed.few)

pub join-requires : goal.join-requires
join-requires c = let ready = c.requires.ready in (block_open ready.seated c.block_at-span.ensures ready.phase, ready.cell)
