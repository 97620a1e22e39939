-- Laws of deeds: what stands among them, what holds of each read from the cells, and what they leave on a table.
use Prim.Native.Nat.{ℕ, ◌≤◌}
use native.Mathlib.Omega.{arith}
use mathlib.Core.Path.{◌≡◌, refl, sym, ◌∙◌}
use mathlib.Core.Bool.{Bool, true, false, ◌&&◌, ◌||◌, true≢false, false≢true, or-true}
use mathlib.Core.List.{List, [], ◌∷◌}
use mathlib.Core.Logic.{◌↔◌}
use lib.ListN.{length}
use lib.Dec.{eqb}
use borrow.Author.Tests.{eqb-true, eq-eqb}
use Rattle.rules.specs.steps.Tables.{put}
use Rattle.rules.specs.steps.Replies.{Content}
use Rattle.rules.specs.history.History.{Deed, look, again, set, Commit, some_look, has_read, has_written, place_after}
use Rattle.rules.specs.history.Past.{Stands, last, older, has_read_from}
use Rattle.rules.specs.history.Replay.{after, Finds}
use Rattle.rules.specs.demand.Judge.{copied}
use Rattle.rules.proofs.steps.Tables.{by, either, and_left, and_right, and_both, same_test}

-- What stands before one that stands in a list stands in the list.
pub stands_before : {A : Type 0} {list middle earlier : List A} {a b : A} → Stands list a middle → Stands middle b earlier
    → Stands list b earlier
stands_before last t = older t
stands_before (older s) t = older (stands_before s t)

module _ {W : Type 0} where
  -- ── Reads from the cells ────────────────────────────────────────────

  -- Q holds of each read from the cells: of the cell, the source, and what was shown.
  abbrev pub EachRead : (ℕ → ℕ → Content W → Type 0) → List (Deed W) → Type 0
  EachRead Q deeds = (y source : ℕ) (v : Content W) (sooner : List (Deed W)) → Stands deeds (look y source v) sooner → Q y source v

  -- It holds of each read where there is no deed,
  pub each_none : (Q : ℕ → ℕ → Content W → Type 0) → EachRead Q []
  each_none Q y source v sooner q = elim q [ ]

  -- where there is one deed fewer,
  pub each_older : {Q : ℕ → ℕ → Content W → Type 0} (d : Deed W) (deeds : List (Deed W)) → EachRead Q (d ∷ deeds) → EachRead Q deeds
  each_older d deeds each y source v sooner q = each y source v sooner (older q)

  -- where there is one more read, of which it holds,
  pub each_look : {Q : ℕ → ℕ → Content W → Type 0} (x k : ℕ) (w : Content W) (deeds : List (Deed W)) → Q x k w → EachRead Q deeds
      → EachRead Q (look x k w ∷ deeds)
  each_look x k w deeds h each y source v sooner last = h
  each_look x k w deeds h each y source v sooner (older q) = each y source v sooner q

  -- where there is one more read from a copy,
  pub each_again : {Q : ℕ → ℕ → Content W → Type 0} (x : ℕ) (w : Content W) (deeds : List (Deed W)) → EachRead Q deeds
      → EachRead Q (again x w ∷ deeds)
  each_again x w deeds each y source v sooner (older q) = each y source v sooner q

  -- and where there is one more write.
  pub each_set : {Q : ℕ → ℕ → Content W → Type 0} (x : ℕ) (w : W) (deeds : List (Deed W)) → EachRead Q deeds
      → EachRead Q (set x w ∷ deeds)
  each_set x w deeds each y source v sooner (older q) = each y source v sooner q

  -- ── The tests say what stands there ─────────────────────────────────

  -- A read of y from the cells that stands among the deeds and passes a test.
  pub record PassingAt (test : ℕ → ℕ → Bool) (deeds : List (Deed W)) (y : ℕ) : Type 0 where
    pub source : ℕ
    pub value : Content W
    pub sooner : List (Deed W)
    pub stands : Stands deeds (look y source value) sooner
    pub passes : test y source ≡ true

  -- Such a read of some cell.
  abbrev pub Passing : (ℕ → ℕ → Bool) → List (Deed W) → Type 0
  Passing test deeds = (y : ℕ) × PassingAt test deeds y

  -- It still stands there after one more deed.
  passing_older : {test : ℕ → ℕ → Bool} (d : Deed W) {deeds : List (Deed W)} → Passing test deeds → Passing test (d ∷ deeds)
  passing_older d t =
      let q = t.1 in
      (t.0, record { source = q.source; value = q.value; sooner = q.sooner; stands = older q.stands; passes = q.passes })

  -- A read that passes makes the test hold,
  pub look_there : (test : ℕ → ℕ → Bool) (deeds : List (Deed W)) {y source : ℕ} {v : Content W} {sooner : List (Deed W)}
      → Stands deeds (look y source v) sooner → test y source ≡ true → some_look test deeds ≡ true
  unfolding some_look
  look_there test [] q h = elim q [ ]
  look_there test (look z k w ∷ deeds) last h = rw h
  look_there test (look z k w ∷ deeds) (older q) h = rw (look_there test deeds q h) (or-true (test z k))
  look_there test (again z w ∷ deeds) (older q) h = look_there test deeds q h
  look_there test (set z w ∷ deeds) (older q) h = look_there test deeds q h

  -- and where the test holds there is one.
  pub look_found : (test : ℕ → ℕ → Bool) (deeds : List (Deed W)) → some_look test deeds ≡ true → Passing test deeds
  unfolding some_look
  look_found test [] h = absurd (false≢true h)
  look_found test (look z k w ∷ deeds) h = either (test z k) (some_look test deeds) h
      (λ e. (z, record { source = k; value = w; sooner = deeds; stands = last; passes = e }))
      (λ e. passing_older (look z k w) (look_found test deeds e))
  look_found test (again z w ∷ deeds) h = passing_older (again z w) (look_found test deeds h)
  look_found test (set z w ∷ deeds) h = passing_older (set z w) (look_found test deeds h)

  -- A cell that is read from the cells was read,
  pub read_there : (deeds : List (Deed W)) {y source : ℕ} {v : Content W} {sooner : List (Deed W)}
      → Stands deeds (look y source v) sooner → has_read deeds y ≡ true
  unfolding has_read
  read_there deeds {y} q = look_there (λ z k. eqb y z) deeds q (eq-eqb y y refl)

  -- and was read from some source.
  pub read_found : (deeds : List (Deed W)) (y : ℕ) → has_read deeds y ≡ true → PassingAt (λ z source. true) deeds y
  unfolding has_read
  read_found deeds y e =
      let t = look_found (λ z source. eqb y z) deeds e in
      let q = t.1 in
      rw (eqb-true y t.0 q.passes)
      (record { source = q.source; value = q.value; sooner = q.sooner; stands = q.stands; passes = refl })

  -- What was read from the cells was read from its source.
  pub read_from_there : (deeds : List (Deed W)) {y source : ℕ} {v : Content W} {sooner : List (Deed W)}
      → Stands deeds (look y source v) sooner → has_read_from deeds source ≡ true
  unfolding has_read_from
  read_from_there deeds {source = source} q = look_there (λ y k. eqb k source) deeds q (eq-eqb source source refl)

  -- A test of the reads of y holds just if such a read stands there and passes.
  pub look_of_cell : (test : ℕ → ℕ → Bool) (deeds : List (Deed W)) (y : ℕ)
      → (some_look (λ z source. eqb y z && test z source) deeds ≡ true) ↔ PassingAt test deeds y
  look_of_cell test deeds y = (to, from)
    where
      of_cell : ℕ → ℕ → Bool
      of_cell z source = eqb y z && test z source

      to : some_look of_cell deeds ≡ true → PassingAt test deeds y
      to e =
          let t = look_found of_cell deeds e in
          let q = t.1 in
          rw (eqb-true y t.0 (and_left (eqb y t.0) (test t.0 q.source) q.passes)) (record {
            source = q.source;
            value = q.value;
            sooner = q.sooner;
            stands = q.stands;
            passes = and_right (eqb y t.0) (test t.0 q.source) q.passes;
          })

      from : PassingAt test deeds y → some_look of_cell deeds ≡ true
      from q = look_there of_cell deeds q.stands (and_both (eqb y y) (test y q.source) (eq-eqb y y refl) q.passes)

  -- Where each read passes a test just if its cell passes another, a cell's read passes just if the cell was read and passes.
  pub look_at_cell : (test : ℕ → ℕ → Bool) (cells : ℕ → Bool) (deeds : List (Deed W)) (y : ℕ)
      → EachRead (λ z source v. test z source ≡ cells z) deeds
      → some_look (λ z source. eqb y z && test z source) deeds ≡ has_read deeds y && cells y
  look_at_cell test cells deeds y each = same_test _ _
      (λ e. let q = (look_of_cell test deeds y).0 e in
      and_both (has_read deeds y) (cells y) (read_there deeds q.stands)
      (sym (each y q.source q.value q.sooner q.stands) ∙ q.passes))
      (λ e. let q = read_found deeds y (and_left (has_read deeds y) (cells y) e) in
      (look_of_cell test deeds y).1 (record {
        source = q.source;
        value = q.value;
        sooner = q.sooner;
        stands = q.stands;
        passes = each y q.source q.value q.sooner q.stands ∙ and_right (has_read deeds y) (cells y) e;
      }))

  -- Nothing was read from a commit that does not stand yet.
  pub read_from_none : (commits : List (Commit W)) (deeds : List (Deed W))
      → EachRead (λ y source v. source ≤ length commits) deeds → has_read_from deeds (place_after commits) ≡ false
  unfolding has_read_from
  read_from_none commits deeds each = by (has_read_from deeds (place_after commits))
      (λ e. let t = look_found (λ y source. eqb source (place_after commits)) deeds e in
      let q = t.1 in
      let stood : q.source ≤ length commits = each t.0 q.source q.value q.sooner q.stands in
      absurd (omega (arith, stood, eqb-true q.source (place_after commits) q.passes)))
      (λ e. e)

  -- ── What deeds leave on a table ─────────────────────────────────────

  -- A cell that was not written is as it was.
  pub after_kept : (deeds : List (Deed W)) (table : ℕ → Content W) (x : ℕ) → has_written deeds x ≡ false → after deeds table x ≡ table x
  unfolding after has_written put
  after_kept [] table x h = refl
  after_kept (look y source v ∷ deeds) table x h = after_kept deeds table x h
  after_kept (again y v ∷ deeds) table x h = after_kept deeds table x h
  after_kept (set y v ∷ deeds) table x h = by (eqb x y)
      (λ e. absurd (true≢false (rw e at h)))
      (λ e. rw e (after_kept deeds table x (rw e at h)))

  -- A cell that was written is the same, whatever the table was.
  pub after_written : (deeds : List (Deed W)) (table other : ℕ → Content W) (x : ℕ)
      → has_written deeds x ≡ true → after deeds table x ≡ after deeds other x
  unfolding after has_written put
  after_written [] table other x h = absurd (false≢true h)
  after_written (look y source v ∷ deeds) table other x h = after_written deeds table other x h
  after_written (again y v ∷ deeds) table other x h = after_written deeds table other x h
  after_written (set y v ∷ deeds) table other x h = by (eqb x y)
      (λ e. rw e)
      (λ e. rw e (after_written deeds table other x (rw e at h)))

  -- What was read from the cells is what the table holds.
  abbrev pub Holds : List (Deed W) → (ℕ → Content W) → Type 0
  Holds deeds table = EachRead (λ y source v. table y ≡ v) deeds

  -- A read is answered from the copy where there is one, and only there.
  abbrev SoundDeed : List (Deed W) → Deed W → Type 0
  SoundDeed sooner (look y source v) = has_written sooner y ≡ false
  SoundDeed sooner (again y v) = (has_read sooner y || has_written sooner y ≡ true) × (copied sooner y ≡ v)
  SoundDeed sooner (set y v) = Unit {0}

  -- Each of the deeds is sound, after those that came sooner.
  abbrev pub Sound : List (Deed W) → Type 0
  Sound deeds = (d : Deed W) (sooner : List (Deed W)) → Stands deeds d sooner → SoundDeed sooner d

  -- No deed is sound,
  pub sound_none : Sound []
  sound_none d sooner q = elim q [ ]

  -- one more that is sound leaves all sound,
  pub sound_new : (d : Deed W) (deeds : List (Deed W)) → SoundDeed deeds d → Sound deeds → Sound (d ∷ deeds)
  sound_new d deeds h sound e sooner last = h
  sound_new d deeds h sound e sooner (older q) = sound e sooner q

  -- and so does one fewer.
  sound_older : (d : Deed W) (deeds : List (Deed W)) → Sound (d ∷ deeds) → Sound deeds
  sound_older d deeds sound e sooner q = sound e sooner (older q)

  -- The copy of a cell is what the deeds leave on a table that holds what was read.
  pub copied_after : (deeds : List (Deed W)) (table : ℕ → Content W) (x : ℕ) → Holds deeds table → Sound deeds
      → has_read deeds x || has_written deeds x ≡ true → after deeds table x ≡ copied deeds x
  unfolding after copied has_read some_look has_written put
  copied_after [] table x holds sound h = absurd (false≢true h)
  copied_after (look y k v ∷ deeds) table x holds sound h = by (eqb x y)
      (λ e. rw (e, eqb-true x y e) (after_kept deeds table y (sound (look y k v) deeds last) ∙ holds y k v deeds last))
      (λ e. rw e (copied_after deeds table x (each_older (look y k v) deeds holds) (sound_older (look y k v) deeds sound)
      (rw e at h)))
  copied_after (again y v ∷ deeds) table x holds sound h =
      copied_after deeds table x (each_older (again y v) deeds holds) (sound_older (again y v) deeds sound) h
  copied_after (set y v ∷ deeds) table x holds sound h = by (eqb x y)
      (λ e. rw e)
      (λ e. rw e (copied_after deeds table x (each_older (set y v) deeds holds) (sound_older (set y v) deeds sound)
      (rw e at h)))

  -- On a table that holds what was read from the cells, every read finds what was shown.
  pub finds_all : (deeds : List (Deed W)) (table : ℕ → Content W) → Holds deeds table → Sound deeds → Finds deeds table
  finds_all deeds table holds sound = record {
    looks = λ y source v sooner q. after_kept sooner table y (sound (look y source v) sooner q) ∙ holds y source v sooner q;
    repeats = λ y v sooner q.
        let answered = sound (again y v) sooner q in
        copied_after sooner table y
        (λ z k w rest t. holds z k w rest (stands_before q t))
        (λ d rest t. sound d rest (stands_before q t))
        answered.0 ∙ answered.1;
  }
