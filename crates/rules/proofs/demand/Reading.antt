-- A first read: the test of abort 1 by the numbers is the test by the history, and a read that is not torn keeps the invariant.
use Prim.Native.Nat.{ℕ, max, ◌≤◌, ◌<◌}
use native.Mathlib.Omega.{arith}
use mathlib.Core.Path.{◌≡◌, refl, sym, ap, ◌∙◌, fun_ext}
use mathlib.Core.Bool.{true, false, ◌&&◌, ◌||◌, and-false}
use mathlib.Core.List.{List, ◌∷◌}
use mathlib.Core.Option.{none}
use lib.Dec.{eqb, ltb}
use borrow.Author.Tests.{eqb-true, eqb-false, ltb-false, le-ltb}
use Rattle.rules.specs.steps.Tables.{put, lowest}
use Rattle.rules.specs.steps.Replies.{Content}
use Rattle.rules.specs.steps.Register.{Setting, Cell, Handler}
use Rattle.rules.specs.steps.Figure.{joined, taken, cell_shows, shown, torn_cell}
use Rattle.rules.specs.history.History.{Deed, look, Commit, some_look, has_read, has_written}
use Rattle.rules.specs.history.Past.{in_past, up_to, outdated, tears_at}
use Rattle.rules.specs.history.Replay.{replay}
use Rattle.rules.specs.demand.Judge.{number_among, copied}
use Rattle.rules.proofs.steps.Tables.{by, either, lowest_none, put_here, put_other}
use Rattle.rules.proofs.steps.Steps.{taken_shows}
use Rattle.rules.proofs.history.Pasts.{past_look}
use Rattle.rules.proofs.history.Versions.{number_or}
use Rattle.rules.proofs.history.Deeds.{EachRead, each_look, read_there, read_found, sound_new}
use Rattle.rules.proofs.history.Sources.{wrote_by, Latest, outdated_at}
use Rattle.rules.proofs.demand.Invariant.{Seen, Carries}

-- Handler i's open transaction, with these deeds, reads the cell x for the first time, in the version that the source wrote.
module _ {W : Type 0} (S : Setting W) (commits : List (Commit W)) (i : ℕ) (deeds : List (Deed W)) (h : Handler W)
    (x source : ℕ) (c : Cell W) (g : Carries S commits i true deeds h)
    (numbers : (y : ℕ) → c.numbers y ≡ number_among commits (up_to commits source) y) (unread : has_read deeds x ≡ false) where
  -- The versions that it has read so far are the latest in its past.
  latest_reads : EachRead (λ y source v. Latest commits (in_past commits i deeds) y source) deeds
  latest_reads y k v sooner q = (g.seen y k v sooner q).latest

  -- So a read is outdated just if the source with its past holds a higher number.
  outdated_here : (y : ℕ) → outdated commits (up_to commits source) deeds y
      ≡ has_read deeds y && ltb (number_among commits (in_past commits i deeds) y) (number_among commits (up_to commits source) y)
  outdated_here = outdated_at commits (in_past commits i deeds) deeds latest_reads (up_to commits source)

  -- The test of abort 1, cell by cell. X itself has joined at its own number.
  torn_at_lem : (y : ℕ) → put h.read_set x true y && ltb (put h.transaction x (c.numbers x) y) (c.numbers y)
      ≡ outdated commits (up_to commits source) deeds y
  torn_at_lem y = by (eqb y x) (λ e. rw (eqb-true y x e) joins) (λ e. others (eqb-false y x e))
    where
      joins : put h.read_set x true x && ltb (put h.transaction x (c.numbers x) x) (c.numbers x)
          ≡ outdated commits (up_to commits source) deeds x
      joins = rw (
        put_here h.transaction x (c.numbers x),
        le-ltb (c.numbers x) (c.numbers x) (omega arith),
        outdated_here x,
        unread,
      )
          (and-false (put h.read_set x true x))

      others : (y ≡ x → ⊥) → put h.read_set x true y && ltb (put h.transaction x (c.numbers x) y) (c.numbers y)
          ≡ outdated commits (up_to commits source) deeds y
      others ne = rw (
        put_other h.read_set x true y ne,
        put_other h.transaction x (c.numbers x) y ne,
        g.read_set y,
        g.transaction refl y,
        numbers y,
      )
          (sym (outdated_here y))

  -- The numbers say abort 1 and the cell just if the history does.
  pub torn_same : torn_cell S (joined h x c) c ≡ tears_at S.cell_count commits deeds source
  unfolding torn_cell joined tears_at
  torn_same = ap (lowest S.cell_count) (fun_ext torn_at_lem)

  -- Where it is not torn, the source with its past holds no later version of a cell that was read.
  untorn : torn_cell S (joined h x c) c ≡ none → (y : ℕ) → has_read deeds y ≡ true
      → number_among commits (up_to commits source) y ≤ number_among commits (in_past commits i deeds) y
  untorn t y e = ltb-false (number_among commits (in_past commits i deeds) y) (number_among commits (up_to commits source) y)
      (rw (outdated_here y, e) at not_outdated)
    where
      inside : y < S.cell_count
      inside = let q = read_found deeds y e in (g.seen y q.source q.value q.sooner q.stands).inside

      not_outdated : outdated commits (up_to commits source) deeds y ≡ false
      not_outdated = lowest_none S.cell_count (outdated commits (up_to commits source) deeds)
          (unfold tears_at in (sym torn_same ∙ t)) y inside

  -- The past with the read is the past and the source with its past.
  number_look : (v : Content W) (y : ℕ) → number_among commits (in_past commits i (look x source v ∷ deeds)) y
      ≡ max (number_among commits (up_to commits source) y) (number_among commits (in_past commits i deeds) y)
  number_look v y = rw (past_look commits i deeds x source v) (number_or commits (up_to commits source) (in_past commits i deeds) y)

  -- The past holds no later version of x than the source's, and the read is not torn.
  module _ (inside : x < S.cell_count) (unwritten : has_written deeds x ≡ false) (wrote : wrote_by commits source x ≡ true)
      (most : number_among commits (in_past commits i deeds) x ≤ number_among commits (up_to commits source) x)
      (left : cell_shows x c ≡ replay commits (up_to commits source) x) (t : torn_cell S (joined h x c) c ≡ none) where
    -- The numbers after the read are those of the past with it.
    taken_numbers : (y : ℕ)
        → (taken (joined h x c) x c).transaction y ≡ number_among commits (in_past commits i (look x source (cell_shows x c) ∷ deeds)) y
    unfolding taken joined put
    taken_numbers y = rw (number_look (cell_shows x c) y) (by (eqb y x)
        (λ e. rw (e, eqb-true y x e) (omega (arith, numbers x, most)))
        (λ e. rw e (by (has_read deeds y)
        (λ q. rw (g.read_set y ∙ q) (omega (arith, untorn t y q, g.transaction refl y)))
        (λ q. rw (g.read_set y ∙ q) (omega (arith, numbers y, g.transaction refl y))))))

    -- What was read before is still the latest in the past.
    still_seen : EachRead (Seen S commits (in_past commits i (look x source (cell_shows x c) ∷ deeds))) deeds
    still_seen y k v sooner q = record {
      inside = saw.inside;
      latest = record {
        wrote = saw.latest.wrote;
        number = rw (number_look (cell_shows x c) y) (omega (arith, saw.latest.number, untorn t y (read_there deeds q)));
      };
      value = saw.value;
    }
      where
        saw : Seen S commits (in_past commits i deeds) y k v
        saw = g.seen y k v sooner q

    -- What is read now is the latest in the past.
    just_seen : Seen S commits (in_past commits i (look x source (cell_shows x c) ∷ deeds)) x source (cell_shows x c)
    just_seen = record {
      inside = inside;
      latest = record { wrote = wrote; number = rw (number_look (cell_shows x c) x) (omega (arith, most)) };
      value = sym left;
    }

    -- What was shown before is shown still: the number of a cell that was read stays, and a cell that was written shows its copy.
    shown_still : (y : ℕ) → eqb y x ≡ false → has_read deeds y || has_written deeds y ≡ true
        → shown (taken (joined h x c) x c) y ≡ shown h y
    unfolding shown taken joined put
    shown_still y e accessed = rw (e, g.read_set y, g.written_set y)
        (either (has_read deeds y) (has_written deeds y) accessed (λ q. rw q) (λ q. rw q))

    -- The block after the read.
    pub taken_carries : Carries S commits i true (look x source (cell_shows x c) ∷ deeds) (taken (joined h x c) x c)
    unfolding taken joined has_read some_look has_written copied put
    taken_carries = record {
      opened = refl;
      read_set = λ y. by (eqb y x) (λ e. rw e) (λ e. rw e (g.read_set y));
      written_set = g.written_set;
      copies = λ y accessed. by (eqb y x)
          (λ e. rw (e, eqb-true y x e) (taken_shows h x c (g.written_set x ∙ unwritten)))
          (λ e. rw e (shown_still y e (rw e at accessed) ∙ g.copies y (rw e at accessed)));
      numbers = g.numbers;
      transaction = λ e. taken_numbers;
      inside = g.inside;
      seen = each_look x source (cell_shows x c) deeds just_seen still_seen;
      sound = sound_new (look x source (cell_shows x c)) deeds unwritten g.sound;
    }
