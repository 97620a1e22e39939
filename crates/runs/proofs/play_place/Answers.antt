-- `runs::play_place` meets its promise: what the file says comes next is shown.
use Rattle.runs.proofs.Shows.{place_shows}
use Rattle.runs.proofs.play_place.Goals as goal

pub returns : goal.returns
returns c = place_shows c.next_step-found.ensures c.show_next.ensures
