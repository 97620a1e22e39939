-- `text::Page::put_number` ends: a tenth of the number is put first, and it is smaller.
use Rattle.text.proofs.Page.+put_number.Given as goal

abbrev pub decreases-put_number : goal.decreases-put_number
decreases-put_number l = l.n
