-- A handler's block as it is lent and comes back: the lent part is the block of the register that the words say, and with the
-- block of another handler put back the words hold the register with that handler.
use Prim.Native.Nat.{ℕ, ◌+◌, ◌*◌, ◌-◌, ◌≤◌}
use mathlib.Core.Path.{◌≡◌, refl, sym, ap, ◌∙◌, subst}
use mathlib.Core.List.{List}
use native.Mathlib.Omega.{arith}
use lib.ListN.{length, take, drop}
use borrow.Rule.Slice.PartMut.{put_mid}
use Rattle.rules.specs.steps.Codes.{Step}
use Rattle.rules.specs.steps.Replies.{Reason, Outcome, aborted}
use Rattle.rules.specs.steps.Register.{Handler, with_handler, idle}
use Rattle.rules.specs.steps.Figure.{aborting, ended_with, step}
use Rattle.layout.specs.Places.{cell_long, body_long, handler_start, handler_long}
use Rattle.layout.specs.View.{word_setting, view_handler, view, pour_handler, holding, Holds}
use Rattle.layout.specs.WellFormed.{GoodBlock}
use Rattle.layout.proofs.Places.{handler_fits, handler_start_small}
use Rattle.layout.proofs.PourView.{well_holds}
use Rattle.layout.proofs.ViewPour.{view_handler_lem}
use Rattle.layout.proofs.Holds.{holds_is}
use Rattle.layout.proofs.OneHandler.{block_put}
use Rattle.block.specs.Blocks.{Block, OpenBlock}
use Rattle.places.specs.Spans.{Spans}
use Rattle.places.proofs.Lent.{lent_part, lent_length, lent_back}
use Rattle.steps.specs.Takes.{Seated, Takes}

module _ {m n i : ℕ} {body : List ℕ} (seated : Seated m n body i) where
  -- The body holds the register that it says.
  pub seated_holds : Holds m n (view m n body) (drop (body_long m n) body) body
  seated_holds = well_holds seated.formed.good

  module _ {from to : ℕ} (span : Spans (handler_start m i) (handler_long m) from to) where
    -- The block lies in the body, not far behind, and is as long as a handler.
    pub block_lies : (from ≤ to) × (to ≤ length body) × (from ≤ 2640) × (to ≡ from + handler_long m)
    block_lies =
        let fits = handler_fits m n i seated.handler in
        let near = handler_start_small m i seated.formed.few (omega (arith, seated.low)) in
        omega (arith, span.starts, span.ends, seated.formed.good.long)

    -- The cells lie before it.
    pub cells_lie : m * cell_long m ≤ from
    cells_lie = omega (arith, span.starts)

    -- What is lent of as many words is the words of a block.
    pub block_of : (others : List ℕ) → length others ≡ length body → Block m (take (to - from) (drop from others))
    block_of others same = record {
      size = lent_length span others (omega (arith, handler_fits m n i seated.handler, seated.formed.good.long));
      cells = seated.formed.few;
    }

    -- What is lent is the words of a block.
    pub block_words : Block m (take (to - from) (drop from body))
    block_words = block_of body refl

    -- What is lent is a good block.
    pub block_good : GoodBlock m (take (to - from) (drop from body))
    block_good = subst (GoodBlock m) (sym (lent_part span body)) (seated.formed.good.blocks i seated.handler)

    -- What is lent says the handler.
    pub block_says : view_handler m (take (to - from) (drop from body)) ≡ (view m n body).handlers i
    block_says = ap (view_handler m) (lent_part span body) ∙ sym (view_handler_lem m n body i seated.handler)

    -- What is lent is a good block of an open handler, where the register says so.
    pub block_open : ((view m n body).handlers i).phase ≡ 1 → OpenBlock m (take (to - from) (drop from body))
    unfolding view_handler
    block_open opened = record {
      words = block_words;
      good = block_good;
      opened = ap (λ h. h.phase) block_says ∙ opened;
    }

    -- With the block of a handler made of the lent one put back, the body holds the register with that handler.
    pub block_back : (made : Handler ℕ → Handler ℕ) (new : List ℕ)
        → new ≡ pour_handler m (made (view_handler m (take (to - from) (drop from body))))
        → put_mid from (to - from) body new ≡ holding body m n (with_handler (view m n body) i (made ((view m n body).handlers i)))
    block_back made new e =
        lent_back span body (e ∙ ap (λ h. pour_handler m (made h)) block_says)
        ∙ holds_is (block_put seated_holds i (made ((view m n body).handlers i)) seated.handler)

    -- A step of the rules that leaves one handler made of the one before is taken by putting its block back.
    pub lent_takes : (made : Handler ℕ → Handler ℕ) {s : Step} {value : ℕ} {said outcome : Outcome ℕ} {last : List ℕ}
        → step (word_setting m) (view m n body) i s value
        ≡ record { outcome = said; after = with_handler (view m n body) i (made ((view m n body).handlers i)) }
        → outcome ≡ said → last ≡ pour_handler m (made (view_handler m (take (to - from) (drop from body))))
        → Takes m n body i s value outcome (put_mid from (to - from) body last)
    lent_takes made {last = last} result same back = record {
      replied = same ∙ ap (λ q. q.outcome) (sym result);
      left = block_back made last back ∙ ap (λ q. holding body m n q.after) (sym result);
    }

    -- A step of the rules that ends the transaction with a reason is taken by putting back the block of a handler that rests.
    pub rest_takes : {s : Step} {value : ℕ} {reason : Reason} {last : List ℕ}
        → step (word_setting m) (view m n body) i s value ≡ ended_with (word_setting m) reason (view m n body) i ((view m n body).handlers i)
        → last ≡ pour_handler m (idle (word_setting m) (view_handler m (take (to - from) (drop from body))).numbers)
        → Takes m n body i s value (aborted reason) (put_mid from (to - from) body last)
    unfolding aborting
    rest_takes ends rests = lent_takes (λ h. idle (word_setting m) h.numbers) ends refl rests
