-- Ends of transactions: a commit that passes the checks finds what it read, and a commit and an abort keep the invariant.
use Prim.Native.Nat.{ℕ, ◌≤◌, ◌<◌}
use native.Mathlib.Omega.{arith}
use mathlib.Core.Path.{◌≡◌, refl, sym, ap, ◌∙◌}
use mathlib.Core.Bool.{Bool, true, false, ◌||◌, or-true}
use mathlib.Core.List.{List, [], ◌∷◌}
use mathlib.Core.Option.{none}
use lib.ListN.{length}
use lib.Dec.{eqb}
use borrow.Author.Tests.{eqb-true, not-false}
use Rattle.rules.specs.steps.Replies.{value}
use Rattle.rules.specs.steps.Register.{Setting, Handler, Register, with_handler, idle}
use Rattle.rules.specs.steps.Figure.{cell_shows, shown, stamped, stored, overtaken_cell, aborting, committing}
use Rattle.rules.specs.history.History.{Deed, Commit, Abort, History, has_read, has_written, place_after}
use Rattle.rules.specs.history.History.{every_commit, writer}
use Rattle.rules.specs.history.History.{transaction, ended, note_commit, note_abort}
use Rattle.rules.specs.history.Past.{Stands, last, older, in_past, up_to, last_of}
use Rattle.rules.specs.history.Replay.{replay, Finds}
use Rattle.rules.specs.demand.Judge.{version_count, number_among}
use Rattle.rules.proofs.steps.Tables.{by, lowest_none, put_three}
use Rattle.rules.proofs.steps.Steps.{stored_shows}
use Rattle.rules.proofs.history.Pasts.{past_none, past_other, last_of_stood, last_of_new, last_of_other}
use Rattle.rules.proofs.history.Versions.{number_skip, number_every, number_new, number_old, writer_new, writer_old, writer_stood}
use Rattle.rules.proofs.history.Deeds.{EachRead, read_from_none, read_there, Holds, copied_after, finds_all, after_kept}
use Rattle.rules.proofs.history.Sources.{source_stood, wrote_by_old}
use Rattle.rules.proofs.history.Replays.{first_old, first_all, replay_old, replay_every, same_value}
use Rattle.rules.proofs.demand.Invariant.{Seen, Carries, Invariant, StoodBy, own_number, from_past, idle_carries}

module _ {W : Type 0} (S : Setting W) where
  -- ── The other handlers ──────────────────────────────────────────────

  -- A commit of another handler changes nothing of what handler j holds.
  module _ (c : Commit W) (commits : List (Commit W)) (j : ℕ) (is_open : Bool) (deeds : List (Deed W)) (h : Handler W)
      (ne : c.handler ≡ j → ⊥) (g : Carries S commits j is_open deeds h) where
    -- What handler j has read was written by commits that stood before,
    sources_stood : EachRead (λ y source v. source ≤ length commits) deeds
    sources_stood y source v sooner q = source_stood commits source y (g.seen y source v sooner q).latest.wrote

    -- so its past is the same,
    past_kept : in_past (c ∷ commits) j deeds ≡ in_past commits j deeds
    past_kept = past_other c commits j deeds ne (read_from_none commits deeds sources_stood)

    -- and holds the same versions,
    number_kept : (y : ℕ) → number_among (c ∷ commits) (in_past commits j deeds) y ≡ number_among commits (in_past commits j deeds) y
    number_kept y =
        number_skip c commits (in_past commits j deeds) y (past_none commits j deeds (place_after commits) (omega arith))

    -- of which what it has read is still the latest.
    seen_kept : EachRead (Seen S (c ∷ commits) (in_past commits j deeds)) deeds
    seen_kept y source v sooner q = record {
      inside = saw.inside;
      latest = record {
        wrote = wrote_by_old c commits source y stood ∙ saw.latest.wrote;
        number = number_old c commits source y stood ∙ saw.latest.number ∙ sym (number_kept y);
      };
      value = ap (λ table. table y) (replay_old c commits source stood) ∙ saw.value;
    }
      where
        saw : Seen S commits (in_past commits j deeds) y source v
        saw = g.seen y source v sooner q

        stood : source ≤ length commits
        stood = sources_stood y source v sooner q

    -- So it carries the same.
    pub other_carries : Carries S (c ∷ commits) j is_open deeds h
    other_carries = record {
      opened = g.opened;
      read_set = g.read_set;
      written_set = g.written_set;
      copies = g.copies;
      numbers = λ y. rw (last_of_other c commits j ne)
          (g.numbers y ∙ sym (number_old c commits (last_of commits j) y (last_of_stood commits j)));
      transaction = λ e y. rw past_kept (g.transaction e y ∙ sym (number_kept y));
      inside = g.inside;
      seen = rw past_kept seen_kept;
      sound = g.sound;
    }

  -- ── A transaction that passes the check ─────────────────────────────

  -- Handler i's transaction is open, and the cells that it has read or written hold their latest versions.
  module _ (r : Register W) (h : History W) (i : ℕ) (c : Carries S h.commits i true (h.now i) (r.handlers i))
      (own : (y : ℕ) → y < S.cell_count → has_read (h.now i) y || has_written (h.now i) y ≡ true
      → (r.cells y).numbers y ≡ version_count h.commits y) where
    -- The numbers that it stamps are those of the new commit with its past.
    pub stamped_is : (y : ℕ) → stamped r (r.handlers i) y
        ≡ number_among (transaction h i ∷ h.commits) (up_to (transaction h i ∷ h.commits) (place_after h.commits)) y
    unfolding stamped
    stamped_is y = rw (number_new (transaction h i) h.commits y) (by (has_written (h.now i) y)
        (λ e. rw (c.written_set y ∙ e, e) (omega (arith, own y (c.inside y e) (rw e (or-true (has_read (h.now i) y))))))
        (λ e. rw (c.written_set y ∙ e, e) (c.transaction refl y)))

    -- What it read is what the cells hold.
    reads_hold : overtaken_cell S r (r.handlers i) ≡ none → Holds (h.now i) (replay h.commits every_commit)
    unfolding overtaken_cell
    reads_hold current y source v sooner q =
        same_value h.commits every_commit (up_to h.commits source) y same_number ∙ saw.value
      where
        saw : Seen S h.commits (in_past h.commits i (h.now i)) y source v
        saw = c.seen y source v sooner q

        has : has_read (h.now i) y ≡ true
        has = read_there (h.now i) q

        present : (r.handlers i).transaction y ≡ (r.cells y).numbers y
        present = eqb-true ((r.handlers i).transaction y) ((r.cells y).numbers y)
            (not-false (eqb ((r.handlers i).transaction y) ((r.cells y).numbers y))
            (rw (c.read_set y ∙ has) at (lowest_none S.cell_count _ current y saw.inside)))

        same_number : number_among h.commits every_commit y ≡ number_among h.commits (up_to h.commits source) y
        same_number = omega (
          arith,
          number_every h.commits y,
          own y saw.inside (rw has),
          present,
          c.transaction refl y,
          saw.latest.number,
        )

    -- Done after all earlier commits, it finds what was shown.
    pub check_finds : overtaken_cell S r (r.handlers i) ≡ none → Finds (h.now i) (replay h.commits every_commit)
    check_finds current = finds_all (h.now i) (replay h.commits every_commit) (reads_hold current) c.sound

    -- What it wrote is what it leaves.
    pub check_leaves : overtaken_cell S r (r.handlers i) ≡ none → (x : ℕ) → has_written (h.now i) x ≡ true
        → value ((r.handlers i).copies x) ≡ replay (transaction h i ∷ h.commits) every_commit x
    unfolding shown
    check_leaves current x e = rw (c.written_set x ∙ e) at (c.copies x accessed)
        ∙ sym (copied_after (h.now i) (replay h.commits every_commit) x (reads_hold current) c.sound accessed)
        ∙ ap (λ table. table x) (sym (replay_every (transaction h i) h.commits))
      where
        accessed : has_read (h.now i) x || has_written (h.now i) x ≡ true
        accessed = rw e (or-true (has_read (h.now i) x))

  -- ── The whole register ──────────────────────────────────────────────

  module _ (r : Register W) (h : History W) (i : ℕ) (g : Invariant S r h) where
    -- Each cell holds its latest version.
    pub own : (y : ℕ) → y < S.cell_count → has_read (h.now i) y || has_written (h.now i) y ≡ true
        → (r.cells y).numbers y ≡ version_count h.commits y
    own y inside accessed = own_number S r h g y

    -- An abort keeps the invariant, and adds a transaction that read what its past left.
    pub abort_invariant : Invariant S (aborting S r i (r.handlers i)) (note_abort h i)
    unfolding aborting with_handler note_abort ended
    abort_invariant = record {
      numbers = g.numbers;
      values = g.values;
      handlers = put_three (Carries S h.commits) h.opened h.now r.handlers
          i false [] (idle S (r.handlers i).numbers)
          (idle_carries S h.commits i (r.handlers i).numbers (g.handlers i).numbers) (λ j ne. g.handlers j);
      aborts = one_more;
    }
      where
        newest : Abort W
        newest = record { handler = i; deeds = h.now i; stood = length h.commits }

        one_more : (a : Abort W) (earlier : List (Abort W)) → Stands (newest ∷ h.aborts) a earlier → StoodBy h.commits a
        one_more a earlier last =
            (omega arith, rw (first_all h.commits) (from_past S h.commits i (h.now i) (g.handlers i).seen))
        one_more a earlier (older q) = g.aborts a earlier q

    module _ (is_open : h.opened i ≡ true) where
      -- What handler i holds, while its transaction is open.
      pub held : Carries S h.commits i true (h.now i) (r.handlers i)
      held = rw is_open at (g.handlers i)

      -- The commits with the new one.
      abbrev grown : List (Commit W)
      grown = transaction h i ∷ h.commits

      -- The cells' numbers after the commit: the new commit's, or those that stood.
      commit_numbers : (x y : ℕ) → (stored r (r.handlers i) x).numbers y
          ≡ number_among grown (up_to grown (writer grown x)) y
      unfolding stored
      commit_numbers x y = by (has_written (h.now i) x)
          (λ e. rw (held.written_set x ∙ e, writer_new (transaction h i) h.commits x e) (stamped_is r h i held own y))
          (λ e. rw (held.written_set x ∙ e, writer_old (transaction h i) h.commits x e)
          (g.numbers x y
          ∙ sym (number_old (transaction h i) h.commits (writer h.commits x) y (writer_stood h.commits x))))

      -- What the cells show after the commit: what it wrote, or what stood.
      commit_values : overtaken_cell S r (r.handlers i) ≡ none → (x : ℕ)
          → cell_shows x (stored r (r.handlers i) x) ≡ replay grown every_commit x
      unfolding stored
      commit_values current x = by (has_written (h.now i) x)
          (λ e. stored_shows r (r.handlers i) x (held.written_set x ∙ e) ∙ check_leaves r h i held own current x e)
          (λ e. rw (held.written_set x ∙ e) (g.values x
          ∙ sym (after_kept (h.now i) (replay h.commits every_commit) x e)
          ∙ ap (λ table. table x) (sym (replay_every (transaction h i) h.commits))))

      -- A commit that is not overtaken keeps the invariant.
      pub commit_invariant : overtaken_cell S r (r.handlers i) ≡ none
          → Invariant S (committing S r i (r.handlers i)) (note_commit h i)
      unfolding committing with_handler note_commit ended
      commit_invariant current = record {
        numbers = commit_numbers;
        values = commit_values current;
        handlers = put_three (Carries S grown) h.opened h.now r.handlers
            i false [] (idle S (stamped r (r.handlers i))) ended_carries
            (λ j ne. other_carries (transaction h i) h.commits j (h.opened j) (h.now j) (r.handlers j)
            (λ e. ne (sym e)) (g.handlers j));
        aborts = λ a earlier q. let stood = g.aborts a earlier q in
            (omega (arith, stood.0), rw (first_old (transaction h i) h.commits a.stood stood.0) stood.1);
      }
        where
          ended_carries : Carries S grown i false [] (idle S (stamped r (r.handlers i)))
          ended_carries = idle_carries S grown i (stamped r (r.handlers i))
              (λ y. rw (last_of_new (transaction h i) h.commits) (stamped_is r h i held own y))
