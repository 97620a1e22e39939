-- `answers::has_copy` meets its contract: a cell with a source was read, and another was written or not touched.
use Rattle.std.proofs.Common.{sym, ◌∙◌}
use Rattle.answers.proofs.Rows.{touched_source, touched_none}
use Rattle.answers.proofs.has_copy.Goals as goal

pub returns-then-ne : goal.returns-then-ne
returns-then-ne c m inside =
    c.if-ne.true ∙ sym (touched_source _ _ m inside _ c.source.ensures (sym c.ne.ensures ∙ c.if-ne.true))

pub returns-else-ne : goal.returns-else-ne
returns-else-ne c m inside =
    c.wrote.ensures ∙ sym (touched_none _ _ m inside _ c.source.ensures (sym c.ne.ensures ∙ c.if-ne.false))
