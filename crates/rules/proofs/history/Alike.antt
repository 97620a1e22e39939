-- Histories that no answer can tell apart: the same but for what no answer asks. Every test and every table that an answer is
-- made of is the same in both, and so is the judgement of whatever is asked for. Noting keeps them so (AlikeNotes.antt).
use Rattle.std.specs.Prelude.{if◌then◌else◌}
use Prim.Native.Nat.{ℕ, suc}
use mathlib.Core.Path.{◌≡◌, refl, sym, ap, ◌∙◌, fun_ext}
use mathlib.Core.Bool.{Bool, not, ◌&&◌}
use mathlib.Core.List.{List, [], ◌∷◌}
use mathlib.Core.Option.{Option}
use lib.ListN.{length}
use lib.Dec.{eqb}
use Rattle.rules.specs.steps.Codes.{Step, begin, try, give_up, read, write, Kind, known, unknown}
use Rattle.rules.specs.steps.Replies.{Content, Refusal}
use Rattle.rules.specs.steps.Register.{Setting}
use Rattle.rules.specs.history.History.{Deed, Commit, History, some_look, has_read, has_written, place_after, writer_among, every_commit, writer}
use Rattle.rules.specs.history.Past.{has_read_from, in_past, up_to, later, outdated, tears_at}
use Rattle.rules.specs.history.Replay.{after, replay}
use Rattle.rules.specs.demand.Demand.{reported_to}
use Rattle.rules.specs.demand.Judge.{version_count, copied, stale, full, answer_read, answer_try, answer, or_answered, judgement}

-- ── What is alike ─────────────────────────────────────────────────────

-- Two lists of deeds that no answer of the history can tell apart: some read from the cells passes a test in both or in neither,
-- the same cells were written, the same copies were made, and the same is left on every table.
pub record SameDeeds {W : Type 0} (a b : List (Deed W)) : Type 0 where
  pub looks : (test : ℕ → ℕ → Bool) → some_look test a ≡ some_look test b
  pub writes : (x : ℕ) → has_written a x ≡ has_written b x
  pub copies : (x : ℕ) → copied a x ≡ copied b x
  pub leaves : (table : ℕ → Content W) (x : ℕ) → after a table x ≡ after b table x

-- Two lists of commits that are pairwise of the same handler and with such deeds.
pub data SameCommits {W : Type 0} : List (Commit W) → List (Commit W) → Type 0 where
  none : SameCommits [] []
  more : {c d : Commit W} {a b : List (Commit W)} → c.handler ≡ d.handler → SameDeeds c.deeds d.deeds
      → SameCommits a b → SameCommits (c ∷ a) (d ∷ b)

-- Two histories with such commits, the same open transactions, and such deeds of each. The aborted ones no answer asks.
pub record SameHistory {W : Type 0} (h g : History W) : Type 0 where
  pub commits : SameCommits h.commits g.commits
  pub opened : (i : ℕ) → h.opened i ≡ g.opened i
  pub now : (i : ℕ) → SameDeeds (h.now i) (g.now i)

module _ {W : Type 0} where
  -- ── The same as itself, both ways, and through a third ──────────────

  -- Deeds are the same as themselves,
  pub deeds_refl : {a : List (Deed W)} → SameDeeds a a
  deeds_refl = record { looks = λ test. refl; writes = λ x. refl; copies = λ x. refl; leaves = λ table x. refl }

  -- both ways,
  pub deeds_sym : {a b : List (Deed W)} → SameDeeds a b → SameDeeds b a
  deeds_sym s = record {
    looks = λ test. sym (s.looks test);
    writes = λ x. sym (s.writes x);
    copies = λ x. sym (s.copies x);
    leaves = λ table x. sym (s.leaves table x);
  }

  -- and through a third.
  pub deeds_trans : {a b c : List (Deed W)} → SameDeeds a b → SameDeeds b c → SameDeeds a c
  deeds_trans s t = record {
    looks = λ test. s.looks test ∙ t.looks test;
    writes = λ x. s.writes x ∙ t.writes x;
    copies = λ x. s.copies x ∙ t.copies x;
    leaves = λ table x. s.leaves table x ∙ t.leaves table x;
  }

  -- Commits are the same as themselves,
  pub commits_refl : {a : List (Commit W)} → SameCommits a a
  commits_refl {a = []} = none
  commits_refl {a = c ∷ a} = more refl deeds_refl (commits_refl {a = a})

  -- both ways,
  pub commits_sym : {a b : List (Commit W)} → SameCommits a b → SameCommits b a
  commits_sym none = none
  commits_sym (more handler deeds rest) = more (sym handler) (deeds_sym deeds) (commits_sym rest)

  -- and through a third.
  pub commits_trans : {a b c : List (Commit W)} → SameCommits a b → SameCommits b c → SameCommits a c
  commits_trans none none = none
  commits_trans (more handler deeds rest) (more handler' deeds' rest') =
      more (handler ∙ handler') (deeds_trans deeds deeds') (commits_trans rest rest')

  -- A history is the same as itself,
  pub history_refl : {h : History W} → SameHistory h h
  history_refl = record { commits = commits_refl; opened = λ i. refl; now = λ i. deeds_refl }

  -- both ways,
  pub history_sym : {h g : History W} → SameHistory h g → SameHistory g h
  history_sym s = record {
    commits = commits_sym s.commits;
    opened = λ i. sym (s.opened i);
    now = λ i. deeds_sym (s.now i);
  }

  -- and through a third.
  pub history_trans : {f g h : History W} → SameHistory f g → SameHistory g h → SameHistory f h
  history_trans s t = record {
    commits = commits_trans s.commits t.commits;
    opened = λ i. s.opened i ∙ t.opened i;
    now = λ i. deeds_trans (s.now i) (t.now i);
  }

  -- ── Deeds ───────────────────────────────────────────────────────────

  -- Two tests that say the same of every read from the cells hold in both or in neither.
  pub some_look_same : {a b : List (Deed W)} (test other : ℕ → ℕ → Bool) → SameDeeds a b
      → ((y source : ℕ) → test y source ≡ other y source) → some_look test a ≡ some_look other b
  some_look_same {a = a} test other s same =
      ap (λ t. some_look t a) (fun_ext (λ y. fun_ext (same y))) ∙ s.looks other

  -- The same cells were read,
  pub has_read_same : {a b : List (Deed W)} → SameDeeds a b → (x : ℕ) → has_read a x ≡ has_read b x
  unfolding has_read
  has_read_same s x = s.looks (λ y source. eqb x y)

  -- and from the same commits.
  pub has_read_from_same : {a b : List (Deed W)} → SameDeeds a b → (k : ℕ) → has_read_from a k ≡ has_read_from b k
  unfolding has_read_from
  has_read_from_same s k = s.looks (λ y source. eqb source k)

  -- ── Commits ─────────────────────────────────────────────────────────

  -- There are as many of both,
  pub length_same : {a b : List (Commit W)} → SameCommits a b → length a ≡ length b
  length_same none = refl
  length_same (more handler deeds rest) = ap suc (length_same rest)

  -- the same one of a set wrote the latest version of a cell,
  pub writer_among_same : {a b : List (Commit W)} → SameCommits a b → (included : ℕ → Bool) (x : ℕ)
      → writer_among a included x ≡ writer_among b included x
  unfolding writer_among
  writer_among_same none included x = refl
  writer_among_same (more handler deeds rest) included x =
      rw (length_same rest, deeds.writes x, writer_among_same rest included x)

  -- and the same one of all,
  pub writer_same : {a b : List (Commit W)} → SameCommits a b → (x : ℕ) → writer a x ≡ writer b x
  unfolding writer
  writer_same s x = writer_among_same s every_commit x

  -- a cell has had as many versions,
  pub version_count_same : {a b : List (Commit W)} → SameCommits a b → (x : ℕ) → version_count a x ≡ version_count b x
  unfolding version_count
  version_count_same none x = refl
  version_count_same (more handler deeds rest) x = rw (deeds.writes x, version_count_same rest x)

  -- and those of a set leave the same table.
  pub replay_same : {a b : List (Commit W)} → SameCommits a b → (included : ℕ → Bool) → replay a included ≡ replay b included
  unfolding replay
  replay_same none included = refl
  replay_same (more {b = b} handler deeds rest) included = rw (length_same rest, replay_same rest included)
      (ap (λ table. if included (place_after b) then table else (replay b included)) (fun_ext (deeds.leaves (replay b included))))

  -- ── Pasts ───────────────────────────────────────────────────────────

  -- The causal past of a transaction holds the commit j in both or in neither,
  in_past_at : {a b : List (Commit W)} {now other : List (Deed W)} → SameCommits a b → (i : ℕ) → SameDeeds now other
      → (j : ℕ) → in_past a i now j ≡ in_past b i other j
  unfolding in_past
  in_past_at none i s j = refl
  in_past_at (more {d = d} handler deeds rest) i s j =
      simp (length_same rest, handler, has_read_from_same s, in_past_at rest d.handler deeds j, in_past_at rest i s j)

  -- so it is the same set of commits,
  pub in_past_same : {a b : List (Commit W)} {now other : List (Deed W)} → SameCommits a b → (i : ℕ) → SameDeeds now other
      → in_past a i now ≡ in_past b i other
  in_past_same commits i s = fun_ext (in_past_at commits i s)

  -- and so is a commit with its causal past.
  pub up_to_same : {a b : List (Commit W)} → SameCommits a b → (k : ℕ) → up_to a k ≡ up_to b k
  unfolding up_to
  up_to_same none k = fun_ext (λ j. refl)
  up_to_same (more {d = d} handler deeds rest) k = fun_ext (λ j.
      rw (length_same rest, handler, in_past_same rest d.handler deeds, up_to_same rest k))

  -- A set wrote a later version of a cell in both or in neither,
  pub later_same : {a b : List (Commit W)} → SameCommits a b → (included : ℕ → Bool) (y source : ℕ)
      → later a included y source ≡ later b included y source
  unfolding later
  later_same none included y source = refl
  later_same (more handler deeds rest) included y source =
      rw (length_same rest, deeds.writes y, later_same rest included y source)

  module _ {a b : List (Commit W)} {now other : List (Deed W)} (commits : SameCommits a b) (deeds : SameDeeds now other) where
    -- the same cells that were read are outdated,
    pub outdated_same : (included : ℕ → Bool) (y : ℕ) → outdated a included now y ≡ outdated b included other y
    unfolding outdated
    outdated_same included y =
        some_look_same _ _ deeds (λ z source. ap (λ test. eqb y z && test) (later_same commits included z source))

    -- and the same commits tear.
    pub tears_same : (m k : ℕ) → tears_at m a now k ≡ tears_at m b other k
    unfolding tears_at
    tears_same m k = simp (up_to_same commits k, cells)
      where
        cells : (included : ℕ → Bool) → outdated a included now ≡ outdated b included other
        cells included = fun_ext (outdated_same included)

    -- Of the same cells the version read is not the present one,
    pub stale_same : (y : ℕ) → stale a now y ≡ stale b other y
    unfolding stale
    stale_same y = some_look_same _ _ deeds (λ z source. ap (λ k. eqb y z && not (eqb source k)) (writer_same commits z))

    -- and the same cells that were written have had 65,535 versions.
    pub full_same : (y : ℕ) → full a now y ≡ full b other y
    unfolding full
    full_same y = rw (deeds.writes y, version_count_same commits y)

-- ── Answers ───────────────────────────────────────────────────────────

module _ {W : Type 0} (S : Setting W) where
  module _ {a b : List (Commit W)} {now other : List (Deed W)} (commits : SameCommits a b) (deeds : SameDeeds now other) where
    -- The answer to a read is the same,
    pub answer_read_same : (x : ℕ) → answer_read S a now x ≡ answer_read S b other x
    unfolding answer_read
    answer_read_same x = rw (
      has_read_same deeds x,
      deeds.writes x,
      deeds.copies x,
      writer_same commits x,
      tears_same commits deeds S.cell_count (writer b x),
      replay_same commits every_commit,
    )

    -- and so is the answer to a try.
    pub answer_try_same : answer_try S a now ≡ answer_try S b other
    unfolding answer_try
    answer_try_same = rw (fun_ext (stale_same commits deeds), fun_ext (full_same commits deeds))

  module _ {h g : History W} (same : SameHistory h g) (i : ℕ) where
    -- Every step has the same answer,
    pub answer_same : (step : Step) → answer S h i step ≡ answer S g i step
    unfolding answer
    answer_same begin = refl
    answer_same (write x) = refl
    answer_same give_up = refl
    answer_same (read x) = answer_read_same same.commits (same.now i) x
    answer_same try = answer_try_same same.commits (same.now i)

    -- refused or answered,
    or_answered_same : (code : ℕ) (refusal : Option Refusal) (kind : Kind)
        → or_answered S h i code refusal kind ≡ or_answered S g i code refusal kind
    unfolding or_answered
    or_answered_same code (Option.some refusal) kind = refl
    or_answered_same code Option.none unknown = refl
    or_answered_same code Option.none (known step) = ap (reported_to i code) (answer_same step)

    -- so the judgement of whatever is asked for is the same.
    pub judgement_same : (n code : ℕ) → judgement S n h i code ≡ judgement S n g i code
    unfolding judgement
    judgement_same n code = rw (same.opened i) (or_answered_same code _ (S.sheet code))
