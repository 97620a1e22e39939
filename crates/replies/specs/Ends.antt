-- What is shown of a cell at the end of a run: what it holds, and its own number. It is shown alike whoever runs the file.
use Rattle.std.specs.Prelude.{ℕ, List, Option, None, Some}
use Rattle.std.proofs.Math.Option as Math
use Rattle.rules.specs.steps.Replies as Rules
use Rattle.rules.specs.steps.Register.{Cell}
use Rattle.rules.specs.steps.Figure.{cell_shows}
use Rattle.replies.specs.Meaning.{content_is}
use Rattle.replies.specs.declared.CellEnd.{CellEnd}

-- What a cell holds, unset or a value, and its own number.
pub record CellLine : Type 0 where
  pub content : Rules.Content ℕ
  pub number : ℕ

-- What is shown of cell c.
abbrev pub cell_line : ℕ → Cell ℕ → CellLine
cell_line c cell = record { content = cell_shows c cell; number = cell.numbers c }

-- What is shown of a cell, if there is one.
abbrev pub end_is : Option CellEnd → Math.Option CellLine
end_is None = Math.none
end_is (Some end) = Math.some (record { content = content_is end.content; number = end.number })

-- What the question for a cell's end is given: words, and the cell.
pub record EndCall : Type 0 where
  pub words : List ℕ
  pub cell : ℕ
