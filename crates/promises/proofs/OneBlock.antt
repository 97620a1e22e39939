-- A begin, a write or a give up changes one handler's block, a part in the middle of the register, and no word outside it. So does a read.
use Prim.Native.Nat.{ℕ, ◌+◌, ◌≤◌, ◌<◌}
use native.Mathlib.Omega.{arith}
use mathlib.Core.Path.{◌≡◌, sym, ap, ap₂, ◌∙◌, subst, fun_ext}
use mathlib.Core.List.{List, [], ◌∷◌, ◌++◌}
use lib.Dec.{eqb}
use lib.ListN.{length, take, drop}
use borrow.Author.Tests.{eqb-true, eqb-false}
use Rattle.rules.specs.steps.Tables.{put}
use Rattle.rules.specs.steps.Codes.{try}
use Rattle.rules.specs.steps.Register.{Handler, Register, with_handler}
use Rattle.rules.proofs.steps.Tables.{put_here, put_other, by}
use Rattle.rules.proofs.steps.Properties.{OneHandler, changes_one}
use Rattle.layout.specs.Places.{cells_of, handlers_of, body_long, body_of, handler_start, handler_long}
use Rattle.layout.specs.View.{word_setting, pour_handler, viewed, register_in, Holds}
use Rattle.layout.proofs.Tested.{tested}
use Rattle.layout.proofs.PourView.{well_holds}
use Rattle.layout.proofs.Holds.{holds_is}
use Rattle.layout.proofs.Places.{handler_fits}
use Rattle.layout.proofs.Blocks.{poured_handler}
use Rattle.layout.proofs.OneHandler.{block_put}
use Rattle.layout.specs.Rows.{splice, Untouched}
use Rattle.layout.proofs.Untouched.{splice_untouched}
use Rattle.layout.proofs.Fronts.{splice_behind, counts_front}
use Rattle.layout.specs.WellFormed.{WellFormed}
use Rattle.layout.proofs.Kept.{well_long}
use Rattle.promises.specs.Stepping.{result_of, Taken}

-- A register that is another but for handler i is that other with its handler i.
one_handler_is : {W : Type 0} {r q : Register W} {i : ℕ} → OneHandler r i q → q ≡ with_handler r i (q.handlers i)
unfolding with_handler
one_handler_is {r = r} {q = q} {i = i} one = λ d. record { cells = one.cells d; handlers = handlers d }
  where
    handlers : q.handlers ≡ put r.handlers i (q.handlers i)
    handlers = fun_ext (λ j. by (eqb j i)
        (λ e. rw (eqb-true j i e, put_here))
        (λ e. rw (put_other r.handlers i (q.handlers i) j (eqb-false j i e)) (one.others j (eqb-false j i e))))

-- Of a step that is taken and is no try, no word outside the handler's block is another.
pub block_only : {words : List ℕ} {handler code value : ℕ} {after : List ℕ} (t : Taken words handler code value after) → (t.what ≡ try → ⊥)
    → Untouched (2 + handler_start (cells_of words) handler) (handler_long (cells_of words)) words after
block_only {words} {handler} {value = value} {after = after} t no_try =
    subst (Untouched (2 + handler_start m handler) (handler_long m) words) (sym after_is)
    (splice_untouched (2 + handler_start m handler) (handler_long m) (pour_handler m new) words (poured_handler m new).size fits)
  where
    m : ℕ
    m = cells_of words

    w : WellFormed words
    w = (tested words).0 t.free.fits.heard.well_formed

    inside : handler < handlers_of words
    inside = t.free.fits.heard.handler

    holds : Holds m (handlers_of words) (viewed words) (drop (body_long m (handlers_of words)) (body_of words)) (body_of words)
    holds = well_holds w.body

    new : Handler ℕ
    new = (result_of words handler t.what value).after.handlers handler

    fits : 2 + handler_start m handler + handler_long m ≤ length words
    fits = omega (arith, handler_fits m (handlers_of words) handler inside, well_long w)

    changed : (result_of words handler t.what value).after ≡ with_handler (viewed words) handler new
    changed = one_handler_is (changes_one (word_setting m) (viewed words) handler t.what value no_try)

    counts : take 2 words ≡ m ∷ handlers_of words ∷ []
    counts = counts_front words (omega (arith, well_long w))

    after_is : after ≡ splice (2 + handler_start m handler) (handler_long m) (pour_handler m new) words
    after_is =
        t.holds ∙ ap (register_in words m (handlers_of words)) changed
        ∙ ap₂ (λ (front body : List ℕ). front ++ body) (sym counts) (sym (holds_is (block_put holds handler new inside)))
        ∙ splice_behind 2 (handler_start m handler) (handler_long m) (pour_handler m new) words
