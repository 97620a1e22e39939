-- The register that poured words say is the register that was poured, if it holds nothing beyond its cells and handlers; and no
-- view holds anything there.
use Prim.Native.Nat.{ℕ, ◌<◌}
use mathlib.Core.Path.{◌≡◌, refl, ap, ◌∙◌}
use mathlib.Core.List.{List, ◌++◌}
use Rattle.rules.specs.steps.Register.{Register, Cell, zeros, idle, blank}
use Rattle.rules.proofs.steps.Tables.{SameFrom}
use Rattle.rules.proofs.steps.Confined.{ConfinedHandler, Confined, idle_confined}
use Rattle.layout.specs.Places.{cell_part, handler_part}
use Rattle.layout.specs.View.{word_setting, view_cell, view_handler, view, pour, Holds}
use Rattle.layout.proofs.Rows.{below_inside, below_beyond, below_each, below_is}
use Rattle.layout.proofs.Blocks.{poured_cell, poured_handler, view_cell_is, view_handler_is, viewed_confined}
use Rattle.layout.proofs.Holds.{pour_holds}

module _ (m n : ℕ) (words : List ℕ) where
  -- A cell below m is what its words say.
  pub view_cell_lem : (c : ℕ) → c < m → (view m n words).cells c ≡ view_cell m (cell_part m words c)
  unfolding view
  view_cell_lem c h = below_inside m _ _ c h

  -- A handler below n is what its block says.
  pub view_handler_lem : (i : ℕ) → i < n → (view m n words).handlers i ≡ view_handler m (handler_part m words i)
  unfolding view
  view_handler_lem i h = below_inside n _ _ i h

-- Words that hold a confined register say it.
pub view_holds : {m n : ℕ} {r : Register ℕ} {rest words : List ℕ} → Confined (word_setting m) n r → Holds m n r rest words
    → view m n words ≡ r
unfolding view
view_holds {m} {n} {r} {rest} {words} confined holds = λ i. record { cells = cells i; handlers = handlers i }
  where
    cell : (c : ℕ) → c < m → view_cell m (cell_part m words c) ≡ r.cells c
    cell c h = ap (view_cell m) (holds.cells c h) ∙ view_cell_is m (r.cells c) _ (confined.cell c) (poured_cell m (r.cells c))

    handler : (i : ℕ) → i < n → view_handler m (handler_part m words i) ≡ r.handlers i
    handler i h =
        ap (view_handler m) (holds.handlers i h)
        ∙ view_handler_is m (r.handlers i) _ (confined.handler i) (poured_handler m (r.handlers i))

    cells : (view m n words).cells ≡ r.cells
    cells = below_is m _ (λ c. view_cell m (cell_part m words c)) r.cells cell confined.cells

    handlers : (view m n words).handlers ≡ r.handlers
    handlers = below_is n _ (λ i. view_handler m (handler_part m words i)) r.handlers handler confined.handlers

-- A confined register comes back from its poured words, whatever is behind them.
pub view_pour : (m n : ℕ) (r : Register ℕ) (rest : List ℕ) → Confined (word_setting m) n r → view m n (pour m n r ++ rest) ≡ r
view_pour m n r rest confined = view_holds confined (pour_holds m n r rest)

-- What words say is confined.
pub view_confined : (m n : ℕ) (words : List ℕ) → Confined (word_setting m) n (view m n words)
unfolding view view_cell blank
view_confined m n words = record {
  cells = below_beyond m _ _;
  handlers = below_beyond n _ _;
  cell = below_each m _ _ (λ (c : Cell ℕ). SameFrom {A = ℕ} m 0 c.numbers) (λ c. below_beyond m 0 _) (λ y _. refl);
  handler = below_each n _ _ (ConfinedHandler (word_setting m)) (λ i. viewed_confined m (handler_part m words i)) nothing;
}
  where
    nothing : ConfinedHandler (word_setting m) (idle (word_setting m) zeros)
    nothing = idle_confined (word_setting m) zeros (λ y _. refl)
