-- When each refusal is given: its own condition holds, and no earlier one does. It is said here number by number, beside the
-- ordered lists of Checks.antt; proofs/Given.antt shows that the lists give each number exactly then.
use Rattle.std.specs.Prelude.{ℕ, ◌≤◌, ◌<◌, ◌≡◌, Bool, true, false}
use Rattle.rules.specs.steps.Codes.{Step, begin, try, give_up, read, write, Kind, known, unknown}
use Rattle.rules.specs.steps.Replies.{Refusal, not_well_formed, no_handler, no_cell, already_open, not_open, unknown_step, out_of_range, too_short}
use Rattle.rules.specs.steps.Checks.{Asked}

-- The step names no cell at m or above.
abbrev pub Within : ℕ → Step → Type 0
Within m begin = Unit {0}
Within m try = Unit {0}
Within m give_up = Unit {0}
Within m (read x) = x < m
Within m (write x) = x < m

-- The step is a read or a write of cell m or above.
abbrev pub Beyond : ℕ → Step → Type 0
Beyond m begin = ⊥
Beyond m try = ⊥
Beyond m give_up = ⊥
Beyond m (read x) = m ≤ x
Beyond m (write x) = m ≤ x

-- The step is a read, a write, a try or a give up.
abbrev pub Late : Step → Type 0
Late begin = ⊥
Late try = Unit {0}
Late give_up = Unit {0}
Late (read x) = Unit {0}
Late (write x) = Unit {0}

-- The step s is asked for by a handler of a well-formed register: neither 10, 15 nor 11.
pub record Heard (a : Asked) (s : Step) : Type 0 where
  pub well_formed : a.well_formed ≡ true
  pub known : a.kind ≡ Kind.known s
  pub handler : a.handler < a.handler_count

-- Besides, it names no cell at m or above: nor 12.
pub record Fitting (a : Asked) (s : Step) : Type 0 where
  pub heard : Heard a s
  pub cell : Within a.cell_count s

-- When a step is refused with each number:
pub data Given (a : Asked) : Refusal → Type 0 where
  -- 10 where the words are no well-formed register,
  malformed : a.well_formed ≡ false → Given a not_well_formed
  -- 15 where they are, and the code stands for no step,
  unlisted : a.well_formed ≡ true → a.kind ≡ unknown → Given a unknown_step
  -- 11 where it stands for one, and the handler is n or above,
  unseated : (s : Step) → a.well_formed ≡ true → a.kind ≡ known s → a.handler_count ≤ a.handler → Given a no_handler
  -- 12 where it is heard, and reads or writes cell m or above,
  outside : (s : Step) → Heard a s → Beyond a.cell_count s → Given a no_cell
  -- 13 where it is a begin that fits, and a transaction is open,
  twice : Fitting a begin → a.opened ≡ true → Given a already_open
  -- and 14 where it is any other that fits, and none is
  early : (s : Step) → Fitting a s → Late s → a.opened ≡ false → Given a not_open

-- The phase that a step wants: begin an idle handler, all others an open one.
abbrev pub phase_for : Step → Bool
phase_for begin = false
phase_for try = true
phase_for give_up = true
phase_for (read x) = true
phase_for (write x) = true

-- When the step s is taken.
pub record Free (a : Asked) (s : Step) : Type 0 where
  pub fits : Fitting a s
  pub phase : a.opened ≡ phase_for s

-- m is 1 to 32 and n is 1 to 16.
pub record InRange (m n : ℕ) : Type 0 where
  pub some_cell : 1 ≤ m
  pub cells : m ≤ 32
  pub some_handler : 1 ≤ n
  pub handlers : n ≤ 16

-- When an opening is refused with each number, where the buffer has so many words, and the register needs so many:
pub data OpeningGiven (m n long need : ℕ) : Refusal → Type 0 where
  -- 20 where m or n is out of range,
  wrong_counts : (InRange m n → ⊥) → OpeningGiven m n long need out_of_range
  -- and 21 where they are in range, and the buffer is too short
  wrong_length : InRange m n → long < need → OpeningGiven m n long need too_short
