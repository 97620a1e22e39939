-- What the numbers of a register mean: what ties it to the history that led there. The steps that change one handler's block keep
-- it; a first read, a commit and an abort have files of their own.
use Prim.Native.Nat.{ℕ, ◌≤◌, ◌<◌}
use native.Mathlib.Omega.{arith}
use mathlib.Core.Path.{◌≡◌, refl, sym, ap, ◌∙◌}
use mathlib.Core.Bool.{Bool, true, false, not, ◌||◌, false≢true}
use mathlib.Core.List.{List, [], ◌∷◌}
use lib.ListN.{length}
use lib.Dec.{eqb}
use borrow.Author.Tests.{eqb-true}
use Rattle.rules.specs.steps.Tables.{put}
use Rattle.rules.specs.steps.Replies.{Content}
use Rattle.rules.specs.steps.Register.{has_open, Setting, Handler, Register, with_handler, no_cells, zeros, idle, blank, fresh}
use Rattle.rules.specs.steps.Figure.{begun, wrote, version_shows, cell_shows, shown}
use Rattle.rules.specs.history.History.{Deed, again, set, Commit, Abort, History, has_read, has_written, some_look}
use Rattle.rules.specs.history.History.{every_commit, writer}
use Rattle.rules.specs.history.History.{no_history, doing}
use Rattle.rules.specs.history.Past.{Stands, in_past, up_to, last_of}
use Rattle.rules.specs.history.Replay.{replay, first_of, FromPast}
use Rattle.rules.specs.demand.Judge.{version_count, number_among, copied}
use Rattle.rules.proofs.steps.Tables.{by, put_three, put_same}
use Rattle.rules.proofs.history.Pasts.{past_last, past_again, past_set}
use Rattle.rules.proofs.history.Versions.{number_writer}
use Rattle.rules.proofs.history.Deeds.{EachRead, each_none, each_again, each_set, Sound, sound_none, sound_new}
use Rattle.rules.proofs.history.Sources.{Latest, latest_writer}
use Rattle.rules.proofs.history.Replays.{same_value}

-- ── The invariant ─────────────────────────────────────────────────────

-- A read of y in the version that the source wrote: y is a cell, no commit of the set wrote a later version, and what was shown
-- is what the source with its past leaves there.
pub record Seen {W : Type 0} (S : Setting W) (commits : List (Commit W)) (included : ℕ → Bool) (y source : ℕ) (v : Content W)
    : Type 0 where
  pub inside : y < S.cell_count
  pub latest : Latest commits included y source
  pub value : replay commits (up_to commits source) y ≡ v

-- What handler i holds, whose transaction is open or not and has done these deeds.
pub record Carries {W : Type 0} (S : Setting W) (commits : List (Commit W)) (i : ℕ) (is_open : Bool) (deeds : List (Deed W))
    (h : Handler W) : Type 0 where
  pub opened : has_open h ≡ is_open
  pub read_set : (y : ℕ) → h.read_set y ≡ has_read deeds y
  pub written_set : (y : ℕ) → h.written_set y ≡ has_written deeds y
  -- a cell that it has read or written is shown as its deeds left the copy,
  pub copies : (y : ℕ) → has_read deeds y || has_written deeds y ≡ true → shown h y ≡ copied deeds y
  -- its numbers are those of its last commit with that one's past,
  pub numbers : (y : ℕ) → h.numbers y ≡ number_among commits (up_to commits (last_of commits i)) y
  -- and the transaction's are those of its causal past
  pub transaction : is_open ≡ true → (y : ℕ) → h.transaction y ≡ number_among commits (in_past commits i deeds) y
  pub inside : (y : ℕ) → has_written deeds y ≡ true → y < S.cell_count
  pub seen : EachRead (Seen S commits (in_past commits i deeds)) deeds
  pub sound : Sound deeds

-- An aborted transaction read what its causal past left, after the commits that stood then.
abbrev pub StoodBy : {W : Type 0} → List (Commit W) → Abort W → Type 0
StoodBy commits a = (a.stood ≤ length commits) × FromPast (first_of a.stood commits) a.handler a.deeds

-- A register, and the history that led there.
pub record Invariant {W : Type 0} (S : Setting W) (r : Register W) (h : History W) : Type 0 where
  -- a cell's numbers are those of its writer with that one's past, and it shows what all commits leave
  pub numbers : (x y : ℕ) → (r.cells x).numbers y ≡ number_among h.commits (up_to h.commits (writer h.commits x)) y
  pub values : (x : ℕ) → cell_shows x (r.cells x) ≡ replay h.commits every_commit x
  pub handlers : (i : ℕ) → Carries S h.commits i (h.opened i) (h.now i) (r.handlers i)
  pub aborts : (a : Abort W) (earlier : List (Abort W)) → Stands h.aborts a earlier → StoodBy h.commits a

module _ {W : Type 0} (S : Setting W) where
  -- A cell's own number is the number of its versions.
  pub own_number : (r : Register W) (h : History W) → Invariant S r h → (x : ℕ)
      → (r.cells x).numbers x ≡ version_count h.commits x
  own_number r h g x = g.numbers x x ∙ number_writer h.commits x

  -- What was seen is what the past alone leaves.
  pub from_past : (commits : List (Commit W)) (i : ℕ) (deeds : List (Deed W))
      → EachRead (Seen S commits (in_past commits i deeds)) deeds → FromPast commits i deeds
  from_past commits i deeds seen = record {
    values = λ y source v sooner q. let saw = seen y source v sooner q in
        sym (same_value commits (up_to commits source) (in_past commits i deeds) y saw.latest.number) ∙ saw.value;
    versions = λ y source v sooner q. latest_writer commits (in_past commits i deeds) y source (seen y source v sooner q).latest;
  }

  -- ── One handler's block ─────────────────────────────────────────────

  module _ (commits : List (Commit W)) (i : ℕ) where
    -- A block with empty sets and cleared copies, at a begin or between transactions.
    cleared : (phase : ℕ) (numbers transaction : ℕ → ℕ) → let is_open = not (eqb phase 0) in
        ((y : ℕ) → numbers y ≡ number_among commits (up_to commits (last_of commits i)) y)
        → (is_open ≡ true → (y : ℕ) → transaction y ≡ number_among commits (in_past commits i []) y)
        → Carries S commits i is_open [] (record {
          phase = phase;
          read_set = no_cells;
          written_set = no_cells;
          numbers = numbers;
          transaction = transaction;
          copies = λ _. S.empty;
        })
    unfolding has_read some_look has_written
    cleared phase numbers transaction known reached = record {
      opened = refl;
      read_set = λ y. refl;
      written_set = λ y. refl;
      copies = λ y e. absurd (false≢true e);
      numbers = known;
      transaction = reached;
      inside = λ y e. absurd (false≢true e);
      seen = each_none (Seen S commits (in_past commits i []));
      sound = sound_none;
    }

    -- An idle block, with the numbers of the handler's last commit.
    pub idle_carries : (numbers : ℕ → ℕ) → ((y : ℕ) → numbers y ≡ number_among commits (up_to commits (last_of commits i)) y)
        → Carries S commits i false [] (idle S numbers)
    unfolding idle
    idle_carries numbers known = cleared 0 numbers zeros known (λ e. absurd (false≢true e))

    -- A begin: the past of an empty transaction is that of its handler's last commit.
    pub begun_carries : (is_open : Bool) (deeds : List (Deed W)) (h : Handler W)
        → Carries S commits i is_open deeds h → Carries S commits i true [] (begun S h)
    unfolding begun
    begun_carries is_open deeds h c =
        cleared 1 h.numbers h.numbers c.numbers (λ e y. rw (past_last commits i) (c.numbers y))

    -- A write: the past stays as it was.
    pub wrote_carries : (deeds : List (Deed W)) (h : Handler W) (x : ℕ) (v : W) → x < S.cell_count
        → Carries S commits i true deeds h → Carries S commits i true (set x v ∷ deeds) (wrote h x v)
    unfolding wrote shown has_read some_look has_written copied put
    wrote_carries deeds h x v inside c = record {
      opened = refl;
      read_set = c.read_set;
      written_set = λ y. by (eqb y x) (λ e. rw e) (λ e. rw e (c.written_set y));
      copies = λ y accessed. by (eqb y x) (λ e. rw e) (λ e. rw e (c.copies y (rw e at accessed)));
      numbers = c.numbers;
      transaction = λ e y. rw (past_set commits i deeds x v) (c.transaction e y);
      inside = λ y e. by (eqb y x) (λ q. omega (arith, eqb-true y x q)) (λ q. c.inside y (rw q at e));
      seen = rw (past_set commits i deeds x v) (each_set x v deeds c.seen);
      sound = sound_new (set x v) deeds tt c.sound;
    }

    -- A read answered from the copy: the past stays as it was.
    pub again_carries : (deeds : List (Deed W)) (h : Handler W) (x : ℕ) → has_read deeds x || has_written deeds x ≡ true
        → Carries S commits i true deeds h → Carries S commits i true (again x (shown h x) ∷ deeds) h
    again_carries deeds h x copy c = record {
      opened = c.opened;
      read_set = λ y. unfold has_read some_look in (c.read_set y);
      written_set = λ y. unfold has_written in (c.written_set y);
      copies = λ y accessed. unfold copied in (c.copies y (unfold has_read some_look has_written in accessed));
      numbers = c.numbers;
      transaction = λ e y. rw (past_again commits i deeds x (shown h x)) (c.transaction e y);
      inside = λ y e. c.inside y (unfold has_written in e);
      seen = rw (past_again commits i deeds x (shown h x)) (each_again x (shown h x) deeds c.seen);
      sound = sound_new (again x (shown h x)) deeds (copy, sym (c.copies x copy)) c.sound;
    }

  -- ── The whole register ──────────────────────────────────────────────

  -- A fresh register has it.
  pub fresh_invariant : Invariant S (fresh S) no_history
  unfolding fresh no_history
  fresh_invariant = record {
    numbers = λ x y. unfold number_among blank in refl;
    values = λ x. unfold replay blank version_shows in refl;
    handlers = λ i. idle_carries [] i zeros (λ y. unfold number_among in refl);
    aborts = λ a earlier q. elim q [ ];
  }

  -- A step that changes handler i's block alone, and leaves its transaction open with these deeds.
  pub doing_invariant : (r : Register W) (h : History W) (i : ℕ) → Invariant S r h → (deeds : List (Deed W)) (b : Handler W)
      → Carries S h.commits i true deeds b → Invariant S (with_handler r i b) (doing h i deeds)
  unfolding with_handler doing
  doing_invariant r h i g deeds b c = record {
    numbers = g.numbers;
    values = g.values;
    handlers = put_three (Carries S h.commits) h.opened h.now r.handlers i true deeds b c (λ j ne. g.handlers j);
    aborts = g.aborts;
  }

  -- A block put where it stands changes nothing.
  pub with_same : (r : Register W) (i : ℕ) → with_handler r i (r.handlers i) ≡ r
  unfolding with_handler
  with_same r i =
      ap (λ handlers. record { cells = r.cells; handlers = handlers }) (put_same r.handlers i (r.handlers i) refl)
