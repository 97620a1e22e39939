-- `text::Page::put_byte` meets its contract: a store where there is room, and nothing beyond.
use Rattle.std.proofs.Common.{arith, refl, length-set}
use Rattle.text.proofs.Puts.{puts_byte, puts_beyond}
use Rattle.text.proofs.Page.put_byte.Goals as goal
use Rattle.text.proofs.Page.put_byte.Goals.{then-self, else-self}

pub returns : goal.returns
returns c = elim c.if-self.branch [
  | else-self w ↦ rw w.self-is (record { same = refl; puts = puts_beyond (omega arith) (grind (arith, length-set)) })
  | then-self w ↦ rw w.self-is (record { same = refl; puts = puts_byte (grind (arith, length-set)) })
]
