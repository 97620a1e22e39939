-- What a read brought stands behind what was read before, and both together are what the reader gave.
use Rattle.std.proofs.Common.{rules, ◌≡◌, ℕ, ◌+◌, ◌-◌, ◌≤◌, List, [], ◌++◌, arith, append-nil}
use Rattle.std.proofs.Common.{length, take, slice_range, sym, ap, ◌∙◌, subst, le_refl, drop_at, length-take-le}
use Rattle.std.proofs.lemmas.Slice.{take-put_mid_below}
use Rattle.std.specs.Io.KnownBytes.{Consumes}
use Rattle.std.proofs.KnownBytes.{Consumes-trans}
use borrow.Rule.Slice.PartMut.{put_mid, post_of}
use lib.Seq.{take-add, take-append-le}
use Rattle.filters.proofs.read_from.Goals as goal

-- The front up to a place, and what stands from there to a later one, are the front up to that.
take_split : (from end : ℕ) (old new : List ℕ) → from ≤ end → take from new ≡ take from old
    → take from old ++ slice_range new from end ≡ take end new
take_split from end old new later front =
    let same : from + (end - from) ≡ end = omega arith in
    ap (λ bytes. bytes ++ slice_range new from end) (sym front) ∙ sym (take-add from (end - from) new) ∙ ap (λ n. take n new) same

-- What was put into the middle of a buffer stands there.
stands_there : (from long more : ℕ) (file part : List ℕ) → from ≤ length file → more ≤ length part
    → slice_range (put_mid from long file part) from (from + more) ≡ take more part
stands_there from long more file part inside fits =
    let same : (from + more) - from ≡ more = omega arith in
    let behind = post_of from long file in
    ap (take ((from + more) - from)) (drop_at (take from file) (part ++ behind) from (length-take-le from file inside))
    ∙ ap (λ n. take n (part ++ behind)) same ∙ take-append-le more part behind fits

pub loop-count-preserved : goal.loop-count-preserved
loop-count-preserved g c =
    let from = c.loop-count.count in
    let file = c.loop-count.file in
    let room = length file - from in
    let more = c.in-Ok.more in
    let part = c.read_some.new.part in
    let inside = c.loop-count.invariant.inside in
    let brought = stands_there from room more file part inside c.in-Ok.ensures.count.0 in
    let kept = take-put_mid_below _ _ _ _ _ (le_refl _) inside in
    let joined = take_split from (from + more) file (put_mid from room file part) (omega arith) kept in
    let together = ap (λ bytes. take from file ++ bytes) (sym brought) ∙ joined in
    record {
      inside = search rules;
      long = search rules;
      given = subst (Consumes _ _) together (Consumes-trans _ _ _ _ _ c.loop-count.invariant.given c.in-Ok.ensures.bytes);
    }

-- A read that failed gave nothing.
pub returns-in_default-clause-bytes : goal.returns-in_default-clause-bytes
returns-in_default-clause-bytes g c =
    let part = c.read_some.new.part in
    let file = c.loop-count.file in
    let kept = take-put_mid_below _ _ _ _ _ (le_refl _) c.loop-count.invariant.inside in
    let nothing : take c.in_default.field-0.count part ≡ [] = ap (λ n. take n part) c.in_default.ensures.cut in
    subst (Consumes _ _) (append-nil (take c.loop-count.count file) ∙ sym kept)
    (Consumes-trans _ _ _ _ _ c.loop-count.invariant.given (subst (Consumes _ _) nothing c.in_default.ensures.bytes))
