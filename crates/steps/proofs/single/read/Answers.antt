-- `steps::single::read` meets its contract: the copy of a cell that was written, the version held of one that was read, and else the first read.
use mathlib.Core.Path.{◌≡◌, sym, ◌∙◌}
use Rattle.layout.specs.View.{view}
use Rattle.steps.proofs.Said.{read_said, written_said, transaction_said, copy_said}
use Rattle.steps.proofs.Reading.{written_takes, held_takes}
use Rattle.steps.proofs.single.read.Goals as goal
use Rattle.steps.proofs.single.read.Goals.{After-has, After-has-2}

-- Whether the cell is in the written set was answered.
written_told : (c : After-has) → c.has.result ≡ ((view c.args.m c.args.n c.args.body.now).handlers c.args.i).written_set c.args.x
written_told c =
    let ready = c.requires in
    c.has.ensures ∙ written_said ready.seated c.block_at-start.ensures.starts _ ready.cell

-- Whether the cell is in the read set was answered.
read_told : (c : After-has-2) → c.has-2.result ≡ ((view c.args.m c.args.n c.args.body.now).handlers c.args.i).read_set c.args.x
read_told c =
    let ready = c.requires in
    c.has-2.ensures ∙ read_said ready.seated c.block_at-start.ensures.starts _ ready.cell

-- The cell is in the written set: its copy.
pub returns-then-has : goal.returns-then-has
returns-then-has c =
    let ready = c.requires in
    written_takes ready.seated.formed.good
    (sym (written_told (goal.at.returns-then-has c).After-has) ∙ c.if-has.true)
    (copy_said ready.seated c.block_at-start.ensures.starts _ ready.cell c.copies.ensures)

-- The cell is in the read set alone: the version held.
pub returns-then-has-2 : goal.returns-then-has-2
returns-then-has-2 c =
    let ready = c.requires in
    let starts = c.block_at-start.ensures.starts in
    held_takes ready.seated.formed.good
    (sym (read_told (goal.at.returns-then-has-2 c).After-has-2) ∙ c.if-has-2.true)
    (sym (written_told (goal.at.returns-then-has-2 c).After-has) ∙ c.if-has.false)
    c.version_shows.ensures.replied
    (transaction_said ready.seated starts _ ready.cell c.transaction_numbers.ensures)
    (copy_said ready.seated starts _ ready.cell c.copies.ensures)

pub first_read-requires : goal.first_read-requires
first_read-requires c = record {
  ready = c.requires;
  unread = sym (read_told (goal.at.first_read-requires c).After-has-2) ∙ c.if-has-2.false;
  unwritten = sym (written_told (goal.at.first_read-requires c).After-has) ∙ c.if-has.false;
}

pub returns : goal.returns
returns c = c.first_read.ensures
