-- `register::open` meets its promise: 20, 21, or a fresh register in front of the words.
use Prim.Native.Nat.{◌-◌, ◌≤◌}
use mathlib.Core.Path.{◌≡◌, sym, ap, ◌∙◌, subst}
use mathlib.Core.Bool.{true}
use mathlib.Core.List.{◌∷◌}
use native.Mathlib.Omega.{arith}
use lib.ListN.{length, set, length-set, length-drop}
use borrow.Rule.Slice.PartMut.{put_mid}
use Rattle.rules.specs.steps.Replies.{ready}
use Rattle.rules.specs.steps.Register.{zeros}
use Rattle.rules.specs.steps.Checks.{in_range}
use Rattle.rules.proofs.steps.Given.{range_tested}
use Rattle.layout.specs.Places.{cells_of, handlers_of, size, body_long, body_of}
use Rattle.layout.proofs.Places.{body_small}
use Rattle.layout.proofs.Fronts.{behind_is, register_back}
use Rattle.promises.specs.Opening.{OpeningPromise}
use Rattle.words.specs.Rows.{Changed}
use Rattle.register.proofs.Opening.{opening_out, opening_short, opening_ready, cleared_holds}
use Rattle.register.proofs.open.Goals as goal
use Rattle.register.proofs.open.Goals.{After-body_words-long, After-clear, Else-not-in_range}

-- m and n are in range.
ranged : (c : Else-not-in_range) → in_range c.args.m c.args.n ≡ true
ranged c = sym c.in_range.ensures.replied ∙ c.if-not-in_range.false

-- The body is small.
small : (c : After-body_words-long) → c.body_words-long.result ≤ 2640
small c =
    let args = c.args in
    let range = (range_tested _ _).0 (sym c.in_range.ensures.replied ∙ c.if-not-in_range.false) in
    omega (arith, c.body_words-long.ensures, body_small args.m args.n range.cells range.handlers)

-- The words that are opened are enough.
enough : (c : After-clear) → let args = c.args in size args.m args.n ≤ length args.words.now
enough c = omega (arith, c.body_words-long.ensures)

-- What was cleared is the body.
cleared : (c : After-clear) → let args = c.args in
    Changed 0 (body_long args.m args.n) zeros (body_of args.words.now) c.clear.new.words
cleared c =
    let words = c.args.words.now in
    let left = c.clear.new.words in
    subst (λ long. Changed 0 long zeros (body_of words) left) c.body_words-long.ensures
    (subst (λ body. Changed 0 c.body_words-long.result zeros body left) (behind_is 2 words) c.clear.ensures)

-- What comes back stands behind m and n again.
back : (c : After-clear) → let words = c.args.words.now in
    let left = c.clear.new.words in
    put_mid 2 (length words - 2) words left ≡ cells_of words ∷ handlers_of words ∷ left
back c = register_back c.args.words.now (omega (arith, enough c)) c.clear.new.words

pub returns-then-not-in_range : goal.returns-then-not-in_range
returns-then-not-in_range c = opening_out _ _ _ (sym c.in_range.ensures.replied ∙ c.if-not-in_range.true)

pub body_words-long-requires : goal.body_words-long-requires
body_words-long-requires c = omega (arith, (range_tested _ _).0 (ranged (goal.at.body_words-long-requires c).Else-not-in_range))

pub returns-then-words-long : goal.returns-then-words-long
returns-then-words-long c = opening_short _ _ _ (ranged (goal.at.returns-then-words-long c).Else-not-in_range) (omega (arith, c.body_words-long.ensures))

pub clear-requires : goal.clear-requires
clear-requires c = let words = c.args.words.now in
    rw (behind_is 2 words) (omega (arith, length-drop 2 words))

pub shape_of-words : goal.shape_of-words
shape_of-words c = simp length-set (ap length (back (goal.at.shape_of-words c).After-clear)
    ∙ (omega (
      arith,
      (cleared (goal.at.shape_of-words c).After-clear).untouched.size,
      length-drop 2 c.args.words.now,
      enough
          (goal.at.shape_of-words c).After-clear,
    )))

pub returns : goal.returns
returns c = let args = c.args in
    subst (λ words. OpeningPromise args.words.now args.m args.n ready (set (set words 0 args.m) 1 args.n)) (sym (back (goal.at.returns c).After-clear))
    (opening_ready args.words.now args.m args.n (ranged (goal.at.returns c).Else-not-in_range) (enough (goal.at.returns c).After-clear)
    (cleared_holds _ _ _ _ (cleared (goal.at.returns c).After-clear)))

pub overflow_add-long : goal.overflow_add-long
overflow_add-long c = omega (arith, small (goal.at.overflow_add-long c).After-body_words-long)
