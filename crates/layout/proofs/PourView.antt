-- What well-formed words say, poured again, is those words: nothing of a well-formed register is lost in its view. That no word
-- says more than the view shows is what well-formedness asks of phases and sets.
use Prim.Native.Nat.{ℕ, ◌≤◌, ◌<◌}
use mathlib.Core.Path.{◌≡◌, refl, sym, ap, ◌∙◌}
use mathlib.Core.List.{List}
use native.Mathlib.Omega.{arith}
use lib.ListN.{length, drop}
use Rattle.layout.specs.Places.{cell_long, handler_long, body_long, cell_start, handler_start, cell_part, handler_part}
use Rattle.layout.specs.View.{view, pour_cell, pour_handler, holding, Holds}
use Rattle.layout.specs.WellFormed.{GoodBody}
use Rattle.layout.proofs.Rows.{part_length}
use Rattle.layout.proofs.Places.{cell_fits, handler_fits}
use Rattle.layout.proofs.Blocks.{cell_is, handler_is, viewed_cell, viewed_handler}
use Rattle.layout.proofs.Holds.{holds_is}
use Rattle.layout.proofs.ViewPour.{view_cell_lem, view_handler_lem}

module _ (m n : ℕ) (words : List ℕ) (long : body_long m n ≤ length words) where
  -- In words that are long enough, a cell's words are as long as a cell.
  pub cell_part_length : (c : ℕ) → c < m → length (cell_part m words c) ≡ cell_long m
  cell_part_length c h = part_length (cell_start m c) (cell_long m) words (omega (arith, cell_fits m n c h))

  -- In words that are long enough, a handler's block is as long as a handler.
  pub handler_part_length : (i : ℕ) → i < n → length (handler_part m words i) ≡ handler_long m
  handler_part_length i h = part_length (handler_start m i) (handler_long m) words (omega (arith, handler_fits m n i h))

module _ {m n : ℕ} {words : List ℕ} (good : GoodBody m n words) where
  -- A good body holds what it says.
  pub well_holds : Holds m n (view m n words) (drop (body_long m n) words) words
  well_holds = record { fits = good.long; cells = cells; handlers = handlers; beyond = refl }
    where
      cells : (c : ℕ) → c < m → cell_part m words c ≡ pour_cell m ((view m n words).cells c)
      cells c h =
          cell_is m _ _ (viewed_cell m _ (cell_part_length m n words good.long c h))
          ∙ ap (pour_cell m) (sym (view_cell_lem m n words c h))

      handlers : (i : ℕ) → i < n → handler_part m words i ≡ pour_handler m ((view m n words).handlers i)
      handlers i h =
          handler_is m _ _ (viewed_handler m _ (handler_part_length m n words good.long i h) (good.blocks i h))
          ∙ ap (pour_handler m) (sym (view_handler_lem m n words i h))

  -- Poured again, what a good body says is that body.
  pub pour_view : holding words m n (view m n words) ≡ words
  pour_view = sym (holds_is well_holds)
