-- Histories that no answer can tell apart stay so when the same reply to the same step is noted in both.
use Prim.Native.Nat.{ℕ}
use mathlib.Core.Path.{◌≡◌, refl}
use mathlib.Core.Bool.{true, false}
use mathlib.Core.List.{List, [], ◌∷◌}
use Rattle.rules.specs.steps.Tables.{put}
use Rattle.rules.specs.steps.Codes.{Step, begin, try, give_up, read, write, Kind, known, unknown}
use Rattle.rules.specs.steps.Replies.{Content, Outcome, ok, shows, committed, aborted, Reply, reported}
use Rattle.rules.specs.history.History.{Deed, look, again, set, Commit, Abort, History, some_look, has_written, writer}
use Rattle.rules.specs.history.History.{doing, read_deed, note_ok, note_shown, ended, note_commit, note_abort, note, note_reply}
use Rattle.rules.specs.history.Replay.{after}
use Rattle.rules.specs.demand.Judge.{copied}
use Rattle.rules.proofs.steps.Tables.{put_three}
use Rattle.rules.proofs.history.Alike.{SameDeeds, SameCommits, more, SameHistory, deeds_refl, has_read_same, writer_same}

-- What holds of two tables place by place, and of two new entries, holds of the tables with the entries put in.
put_two {ℓ} : {A : Type ℓ} (Q : A → A → Type 0) (f g : ℕ → A) (i : ℕ) (a b : A)
    → Q a b → ((j : ℕ) → Q (f j) (g j)) → (j : ℕ) → Q (put f i a j) (put g i b j)
put_two Q f g i a b new old = put_three (λ j c d e. Q c d) f g g i a b b new (λ j ne. old j)

module _ {W : Type 0} where
  -- Deeds that no answer can tell apart stay so with one more deed.
  pub deed_same : {a b : List (Deed W)} (d : Deed W) → SameDeeds a b → SameDeeds (d ∷ a) (d ∷ b)
  unfolding some_look has_written copied after put
  deed_same (look y source v) s = record {
    looks = λ test. rw (s.looks test);
    writes = s.writes;
    copies = λ x. rw (s.copies x);
    leaves = s.leaves;
  }
  deed_same (again y v) s = record { looks = s.looks; writes = s.writes; copies = s.copies; leaves = s.leaves }
  deed_same (set y v) s = record {
    looks = s.looks;
    writes = λ x. rw (s.writes x);
    copies = λ x. rw (s.copies x);
    leaves = λ table x. rw (s.leaves table x);
  }

  module _ {h g : History W} (same : SameHistory h g) (i : ℕ) where
    -- A step after which handler i's transaction is open, with such deeds.
    doing_same : {a b : List (Deed W)} → SameDeeds a b → SameHistory (doing h i a) (doing g i b)
    unfolding doing
    doing_same {a = a} {b = b} deeds = record {
      commits = same.commits;
      opened = put_two (λ c d. c ≡ d) h.opened g.opened i true true refl same.opened;
      now = put_two (SameDeeds) h.now g.now i a b deeds same.now;
    }

    -- The end of handler i's transaction, with such commits then.
    ended_same : {a b : List (Commit W)} (aborts others : List (Abort W)) → SameCommits a b
        → SameHistory (ended h i a aborts) (ended g i b others)
    unfolding ended
    ended_same aborts others commits = record {
      commits = commits;
      opened = put_two (λ c d. c ≡ d) h.opened g.opened i false false refl same.opened;
      now = put_two (SameDeeds) h.now g.now i [] [] deeds_refl same.now;
    }

    -- A read's deed is the same: the tests that it takes, and its source.
    read_deed_same : (x : ℕ) (v : Content W)
        → read_deed (h.now i) (writer h.commits x) x v ≡ read_deed (g.now i) (writer g.commits x) x v
    unfolding read_deed
    read_deed_same x v = rw (has_read_same (same.now i) x, (same.now i).writes x, writer_same same.commits x)

    -- An answer ok.
    note_ok_same : (step : Step) (v : W) → SameHistory (note_ok h i step v) (note_ok g i step v)
    unfolding note_ok
    note_ok_same begin v = doing_same deeds_refl
    note_ok_same (write x) v = doing_same (deed_same (set x v) (same.now i))
    note_ok_same (read x) v = same
    note_ok_same try v = same
    note_ok_same give_up v = same

    -- An answer that shows something.
    note_shown_same : (step : Step) (v : Content W)
        → SameHistory (note_shown (writer h.commits) h i step v) (note_shown (writer g.commits) g i step v)
    unfolding note_shown
    note_shown_same (read x) v = doing_same (rw (read_deed_same x v) (deed_same _ (same.now i)))
    note_shown_same (write x) v = same
    note_shown_same begin v = same
    note_shown_same try v = same
    note_shown_same give_up v = same

    -- Every outcome.
    outcome_same : (step : Step) (v : W) (outcome : Outcome W) → SameHistory (note h i step v outcome) (note g i step v outcome)
    unfolding note note_commit note_abort
    outcome_same step v ok = note_ok_same step v
    outcome_same step v (shows w) = note_shown_same step w
    outcome_same step v committed = ended_same _ _ (more refl (same.now i) same.commits)
    outcome_same step v (aborted reason) = ended_same _ _ same.commits

    -- Every reply, to whatever was asked for.
    pub note_same : (kind : Kind) (v : W) (reply : Reply W) → SameHistory (note_reply h i kind v reply) (note_reply g i kind v reply)
    unfolding note_reply
    note_same (known step) v (reported report) = outcome_same step v report.outcome
    note_same (known step) v (Reply.refused refusal) = same
    note_same unknown v reply = same
