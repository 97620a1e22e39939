-- The third demand of words, proved: a run of words follows the rules, and the rules keep the demand.
use Prim.Native.Nat.{ℕ, ◌+◌, ◌<◌}
use native.Mathlib.Omega.{arith}
use mathlib.Core.Path.{◌≡◌, sym, ap, ap₂, ◌∙◌}
use mathlib.Core.List.{List}
use lib.ListN.{get_or}
use Rattle.rules.specs.steps.Replies.{unset}
use Rattle.rules.specs.steps.Register.{blank}
use Rattle.rules.specs.steps.Figure.{version_shows, cell_shows}
use Rattle.rules.specs.history.History.{History}
use Rattle.rules.specs.demand.Demand.{Ask, Consistent}
use Rattle.rules.specs.demand.Judge.{Told}
use Rattle.rules.proofs.demand.ThirdDemand.{CellTold, cells_told, third_demand, history_tells}
use Rattle.layout.specs.Places.{body_of, cell_start, cell_long}
use Rattle.layout.specs.View.{word_setting, view_cell, view}
use Rattle.layout.proofs.Rows.{part_at, below_inside, below_is}
use Rattle.layout.proofs.ViewPour.{view_cell_lem, view_confined}
use Rattle.promises.specs.Inherits.{number_word, cell_contents, WordsConsistent, WordsInherit}
use Rattle.promises.specs.Runs.{WordRun}
use Rattle.promises.proofs.Runs.{FollowsRules, rules_reply, run_follows}

-- ── What the words of the cells say ───────────────────────────────────

module _ (m n : ℕ) (words : List ℕ) where
  -- A cell's first word is its value.
  pub value_said : (x : ℕ) → x < m → get_or (body_of words) (cell_start m x) 0 ≡ ((view m n (body_of words)).cells x).value
  unfolding view_cell
  value_said x inside =
      ap (λ place. get_or (body_of words) place 0) (let first : cell_start m x ≡ cell_start m x + 0 = omega arith in first)
      ∙ sym (part_at (cell_start m x) (cell_long m) (body_of words) 0 (omega arith))
      ∙ ap (λ cell. cell.value) (sym (view_cell_lem m n (body_of words) x inside))

  -- A number that is read off the words is that of the register that the words say.
  pub number_said : (x y : ℕ) → x < m → y < m → number_word m words x y ≡ ((view m n (body_of words)).cells x).numbers y
  unfolding view_cell
  number_said x y inside below =
      sym (part_at (cell_start m x) (cell_long m) (body_of words) (1 + y) (omega arith))
      ∙ sym (below_inside m 0 _ y below)
      ∙ ap (λ cell. cell.numbers y) (sym (view_cell_lem m n (body_of words) x inside))

  -- What is read off the words as what each cell holds is what the cells show of the register that the words say.
  contents_said : cell_contents m words ≡ (λ x. cell_shows x ((view m n (body_of words)).cells x))
  unfolding cell_contents version_shows blank
  contents_said = below_is m unset _ _
      (λ x inside. ap₂ version_shows (number_said x x inside inside) (value_said x inside))
      (λ x beyond. ap (cell_shows x) ((view_confined m n (body_of words)).cells x beyond))

-- ── What is inherited ─────────────────────────────────────────────────

module _ {m n : ℕ} {asks : List (Ask ℕ)} {words : List ℕ} {h : History ℕ} (follows : FollowsRules m n asks words h) where
  -- The register that the words say is consistent with the history,
  consistent : Consistent (word_setting m) n (view m n (body_of words)) h
  consistent = rw (follows.says, follows.history) (third_demand ℕ (word_setting m) n asks)

  -- and is told by it.
  told : Told (word_setting m) n (view m n (body_of words)) h
  told = rw (follows.says, follows.history) (history_tells ℕ (word_setting m) n asks)

  -- So the words are consistent with the history.
  follows_consistent : WordsConsistent m n words h
  follows_consistent = record {
    legal = rw (contents_said m n words) consistent.legal;
    torn_exactly = λ y first p. rw (rules_reply follows p) (consistent.torn_exactly _ _ _ y _ first);
    replies = λ p. rules_reply follows p ∙ told.replies _ _ _;
    overtaken_exactly = λ y inside asks is_open p. rw (rules_reply follows p) (told.overtaken_exactly _ _ y _ inside asks is_open);
    spent_exactly = λ y inside asks is_open p. rw (rules_reply follows p) (told.spent_exactly _ _ y _ inside asks is_open);
    numbers = λ x y inside below. number_said m n words x y inside below ∙ told.numbers x y;
  }

-- The third demand of words holds.
pub words_inherit : WordsInherit
words_inherit m n asks words h ran = follows_consistent (run_follows ran)

-- After every run of words the history tells of each cell, as the words say it: it shows what all commits leave there, and its
-- own number is how many of them wrote it.
pub words_told : {m n : ℕ} {asks : List (Ask ℕ)} {words : List ℕ} {h : History ℕ} → WordRun m n asks words h
    → (x : ℕ) → CellTold (word_setting m) (view m n (body_of words)) h x
words_told {m} {n} {asks} ran x =
    let follows = run_follows ran in
    rw (follows.says, follows.history) (cells_told (word_setting m) n asks x)
