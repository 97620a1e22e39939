-- `text::Page::put_text` meets its contract: all of the text is copied, or as much as there is room for, or none.
use Rattle.std.proofs.Common.{arith, refl}
use Rattle.text.proofs.Puts.{puts_copied, puts_cut, puts_out}
use Rattle.text.proofs.Page.put_text.Goals as goal
use Rattle.text.proofs.Page.put_text.Goals.{then-end-self, else-end-self+then-self, else-end-self+else-self}

pub returns : goal.returns
returns c = elim c.if-end-self.branch [
  | then-end-self w ↦ rw w.self-is (record { same = refl; puts = puts_copied refl w.if-end-self.true (omega arith) w.copy_from_slice.ensures.after })
  | else-end-self+then-self w ↦ rw w.self-is (record { same = refl; puts = puts_cut refl (omega arith) refl w.copy_from_slice-then-self.ensures.after })
  | else-end-self+else-self w ↦ rw w.self-is (record { same = refl; puts = puts_out refl (omega arith) })
]
