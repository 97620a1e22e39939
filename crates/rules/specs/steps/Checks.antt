-- Refusals in their fixed order: each list holds names and conditions, and the first condition that holds decides. A check added
-- later is one line of a list.
use Rattle.std.specs.Prelude.{ℕ, Bool, true, false, not, ◌&&◌, List, [], ◌∷◌, ltb, leb, if◌then◌else◌}
use Rattle.std.proofs.Math.Option.{Option, none, some}
use Rattle.rules.specs.steps.Tables.{is_found, place_of}
use Rattle.rules.specs.steps.Codes.{begin, try, give_up, read, write, Kind, known, unknown}
use Rattle.rules.specs.steps.Replies.{Refusal, not_well_formed, no_handler, no_cell, already_open, not_open, unknown_step, out_of_range, too_short}

-- A check: what it says, and when.
pub record Check (A : Type 0) : Type 0 where
  pub says : A
  pub holds : Bool

infix 30 ◌when◌
-- A check, written as it is read.
abbrev pub ◌when◌ : {A : Type 0} → A → Bool → Check A
a when b = record { says = a; holds = b }

infix 30 ◌naming◌
-- A check that holds where a place was found, and names it.
abbrev pub ◌naming◌ : {A : Type 0} → (ℕ → A) → Option ℕ → Check A
a naming place = record { says = a (place_of place); holds = is_found place }

-- What the first check that holds says, if one holds.
unfoldable pub first_hit : {A : Type 0} → List (Check A) → Option A
first_hit [] = none
first_hit (c ∷ checks) = if c.holds then (some c.says) else (first_hit checks)

-- What the checks of a step look at: whether the words are a well-formed register, its numbers of cells and handlers, the handler
-- and the kind of step asked for, and whether that handler's transaction is open.
pub record Asked : Type 0 where
  pub well_formed : Bool
  pub cell_count : ℕ
  pub handler_count : ℕ
  pub handler : ℕ
  pub kind : Kind
  pub opened : Bool

-- The one builder of what is asked: whether the words are well formed, of m cells and n handlers, by a handler, a kind of step, and
-- whether that handler's transaction is open.
abbrev pub asking : Bool → ℕ → ℕ → ℕ → Kind → Bool → Asked
asking well_formed m n handler kind opened = record {
  well_formed = well_formed;
  cell_count = m;
  handler_count = n;
  handler = handler;
  kind = kind;
  opened = opened;
}

-- The code stands for no step.
abbrev pub is_unknown : Kind → Bool
is_unknown (known s) = false
is_unknown unknown = true

-- A read or a write of cell m or above.
abbrev pub is_beyond : ℕ → Kind → Bool
is_beyond m (known begin) = false
is_beyond m (known try) = false
is_beyond m (known give_up) = false
is_beyond m (known (read x)) = leb m x
is_beyond m (known (write x)) = leb m x
is_beyond m unknown = false

-- A begin.
abbrev pub is_begin : Kind → Bool
is_begin (known begin) = true
is_begin (known try) = false
is_begin (known give_up) = false
is_begin (known (read x)) = false
is_begin (known (write x)) = false
is_begin unknown = false

-- Order for a step: 10, 15, 11, 12, then 13 or 14.
unfoldable pub step_checks : Asked → List (Check Refusal)
step_checks a =
    (not_well_formed when not a.well_formed) ∷
    (unknown_step when is_unknown a.kind) ∷
    (no_handler when leb a.handler_count a.handler) ∷
    (no_cell when is_beyond a.cell_count a.kind) ∷
    (already_open when (is_begin a.kind && a.opened)) ∷
    (not_open when (not (is_begin a.kind) && not a.opened)) ∷ []

-- m is 1 to 32 and n is 1 to 16.
unfoldable pub in_range : ℕ → ℕ → Bool
in_range m n = (leb 1 m && leb m 32) && (leb 1 n && leb n 16)

-- Opening: 20, 21. The buffer has so many words, and the register needs so many.
unfoldable pub opening_checks : ℕ → ℕ → ℕ → ℕ → List (Check Refusal)
opening_checks m n long need =
    (out_of_range when not (in_range m n)) ∷
    (too_short when ltb long need) ∷ []
