-- The third demand instantiated on the cases that are computed: what is answered abort 1 tears, and what shows something does
-- not; K10's aborted transaction has read what its past alone leaves; K11 is where ours differs from the source's legality.
use Prim.Native.Nat.{ℕ, zero, suc, ◌+◌, ◌<◌}
use native.Mathlib.Omega.{arith}
use mathlib.Core.Path.{◌≡◌, refl, sym, ap, ◌∙◌, subst}
use mathlib.Core.Bool.{Bool, true, false, not, ◌&&◌, ◌||◌}
use mathlib.Core.List.{List, [], ◌∷◌}
use mathlib.Core.Logic.{◌↔◌}
use lib.Dec.{ltb}
use borrow.Author.Tests.{ltb-true, not-true}
use Rattle.rules.specs.steps.Tables.{put, LowestOf}
use Rattle.rules.specs.steps.Codes.{known, read, plain_sheet}
use Rattle.rules.specs.steps.Replies.{torn, overtaken, Content, unset, value, shows, aborted}
use Rattle.rules.specs.steps.Turn.{turn}
use Rattle.rules.specs.history.History.{Deed, look, again, History, has_read, has_written, writer}
use Rattle.rules.specs.history.Past.{Stands, last, older, Tears, in_past}
use Rattle.rules.specs.history.Replay.{after, first_of, replay, Finds, FromPast}
use Rattle.rules.specs.demand.Demand.{Ask, reported_to, FirstRead}
use Rattle.rules.specs.demand.Judge.{Overtaken}
use Rattle.rules.proofs.steps.Tables.{and_left, and_right, or_left, or_right}
use Rattle.rules.proofs.steps.Properties.{shows_no_abort}
use Rattle.rules.proofs.demand.ExactAborts.{outcome_in}
use Rattle.rules.proofs.demand.ThirdDemand.{third_demand, history_tells}
use Rattle.rules.proofs.demand.TornAtAll.{read_torn_at_all}
use Rattle.rules.proofs.demand.CaseHistories.{two, reached, commits_after, reply_to, is_first, Answered}
use Rattle.rules.proofs.demand.CasesComputed.{k8, k8_answered, k9, k9_answered, k10, k10_answered, k10_read, k10_open}
use Rattle.rules.proofs.demand.CasesComputed.{k10_overtaken, k10_tried, k10_commits, k10_aborted, k10_history, k11}
use Rattle.rules.proofs.demand.CasesComputed.{k11_answered, k11_first, k11_second, read_only, read_only_answered}
use Rattle.rules.proofs.demand.CasesComputed.{past_of_past, past_of_past_answered, aborted_read, aborted_read_answered}
use Rattle.rules.proofs.demand.CasesComputed.{given_up, given_up_answered, blind, blind_answered}

-- The writer of x, or a commit in its past, wrote a later version of a cell than handler 0 has read by then.
abbrev pub TearsAfter : List (Ask ℕ) → ℕ → ℕ → Type 0
TearsAfter steps x = Tears (commits_after steps) ((reached steps).history.now 0) (writer (commits_after steps) x)

-- ── The demand on them ────────────────────────────────────────────────

-- The code of a read of one of the two cells.
read_code : (x : ℕ) → x < 2 → plain_sheet (32 + x) ≡ known (read x)
unfolding plain_sheet
read_code zero inside = refl
read_code (suc zero) inside = refl
read_code (suc (suc x)) inside = absurd (omega arith)

-- A read that the test calls a first one is one.
pub first_read_lem : (steps : List (Ask ℕ)) (x : ℕ) → is_first steps x ≡ true → FirstRead two 4 (reached steps).history 0 (32 + x) x
unfolding is_first
first_read_lem steps x e = record {
  handler = omega arith;
  cell = inside;
  asks = read_code x inside;
  opened = and_left (h.opened 0) (not (was_read || was_written)) is_open;
  unread = or_left was_read was_written untouched;
  unwritten = or_right was_read was_written untouched;
}
  where
    h : History ℕ
    h = (reached steps).history

    was_read : Bool
    was_read = has_read (h.now 0) x

    was_written : Bool
    was_written = has_written (h.now 0) x

    inside : x < 2
    inside = ltb-true x 2 (and_left (ltb x 2) (h.opened 0 && not (was_read || was_written)) e)

    is_open : h.opened 0 && not (was_read || was_written) ≡ true
    is_open = and_right (ltb x 2) (h.opened 0 && not (was_read || was_written)) e

    untouched : was_read || was_written ≡ false
    untouched = not-true (was_read || was_written) (and_right (h.opened 0) (not (was_read || was_written)) is_open)

-- A read that is answered abort 1 tears, at the cell named and at none below it: the demand's third part, on such a read.
pub answered_torn : (steps : List (Ask ℕ)) (x y : ℕ) → Answered steps x (aborted (torn y)) → LowestOf (TearsAfter steps x) y
answered_torn steps x y a = demanded.0 a.reply
  where
    demanded : (reply_to steps x ≡ reported_to 0 (32 + x) (aborted (torn y))) ↔ LowestOf (TearsAfter steps x) y
    demanded = unfold reached in ((third_demand ℕ two 4 steps).torn_exactly 0 (32 + x) x y 0 (first_read_lem steps x a.first))

-- One that shows something tears nowhere.
pub answered_shown : (steps : List (Ask ℕ)) (x : ℕ) (v : Content ℕ) → Answered steps x (shows v) → (y : ℕ) → TearsAfter steps x y → ⊥
answered_shown steps x v a y tears =
    let abort = demanded.1 (y, tears) in shows_no_abort v (torn abort.0) (ap outcome_in (sym a.reply ∙ abort.1))
  where
    demanded : ((z : ℕ) × (reply_to steps x ≡ reported_to 0 (32 + x) (aborted (torn z)))) ↔ ((z : ℕ) × TearsAfter steps x z)
    demanded = unfold reached in (read_torn_at_all two 4 _ _ (third_demand ℕ two 4 steps) 0 (32 + x) x 0 (first_read_lem steps x a.first))

-- ── The cases ─────────────────────────────────────────────────────────

-- K8: the writer of cell 1 drew on a commit that wrote cell 0 anew.
pub k8_tears : LowestOf (TearsAfter k8 1) 0
k8_tears = answered_torn k8 1 0 k8_answered

-- K9: an earlier commit of the same handler wrote cell 0 anew.
pub k9_tears : LowestOf (TearsAfter k9 1) 0
k9_tears = answered_torn k9 1 0 k9_answered

-- K10: cell 0 was written anew by nobody in the writer's past.
pub k10_holds : (y : ℕ) → TearsAfter k10 1 y → ⊥
k10_holds = answered_shown k10 1 (value 6) k10_answered

-- K11: the writer of cell 0 itself wrote cell 1 anew.
pub k11_tears : LowestOf (TearsAfter k11 0) 1
k11_tears = answered_torn k11 0 1 k11_answered

-- A commit that wrote nothing carries its past to the next commit of its handler.
pub read_only_tears : LowestOf (TearsAfter read_only 1) 0
read_only_tears = answered_torn read_only 1 0 read_only_answered

-- A past of a past is a past.
pub past_of_past_tears : LowestOf (TearsAfter past_of_past 1) 0
past_of_past_tears = answered_torn past_of_past 1 0 past_of_past_answered

-- An aborted transaction is in nobody's past.
pub aborted_read_holds : (y : ℕ) → TearsAfter aborted_read 1 y → ⊥
aborted_read_holds = answered_shown aborted_read 1 (value 6) aborted_read_answered

-- So is one that gave up.
pub given_up_holds : (y : ℕ) → TearsAfter given_up 1 y → ⊥
given_up_holds = answered_shown given_up 1 (value 6) given_up_answered

-- A blind overwrite hides a past.
pub blind_holds : (y : ℕ) → TearsAfter blind 1 y → ⊥
blind_holds = answered_shown blind 1 (value 7) blind_answered

-- ── K10, tried ────────────────────────────────────────────────────────

-- K10's try is answered abort 2 and cell 0, so that the version read of cell 0 is no longer the present one.
pub k10_passed : LowestOf (Overtaken (commits_after k10_read) ((reached k10_read).history.now 0)) 0
k10_passed = told.0 k10_overtaken
  where
    told : ((turn two 4 true (reached k10_read).register 0 1 0).reply ≡ reported_to 0 1 (aborted (overtaken 0)))
        ↔ LowestOf (Overtaken (commits_after k10_read) ((reached k10_read).history.now 0)) 0
    told = unfold reached plain_sheet in ((history_tells ℕ two 4 k10_read).overtaken_exactly 0 1 0 0 (omega arith) refl k10_open)

-- What the aborted transaction had read is what its past alone leaves,
pub k10_from_past : FromPast (first_of 2 k10_commits) 0 k10_aborted.deeds
k10_from_past = subst (λ commits. FromPast (first_of 2 commits) 0 k10_aborted.deeds) k10_history.0
    (unfold reached in ((third_demand ℕ two 4 k10_tried).legal.aborted k10_aborted [] stands))
  where
    stands : Stands (reached k10_tried).history.aborts k10_aborted []
    stands = rw k10_history.1 last

-- which is nothing in cell 0, where all commits leave 5 (k10-all).
pub k10_past : replay k10_commits (in_past k10_commits 0 k10_aborted.deeds) 0 ≡ unset
unfolding first_of
k10_past = k10_from_past.values 0 0 unset [] (older last)

-- ── K11, in the other order ───────────────────────────────────────────

-- The source's legality would have allowed K11's read: after the second commit and then the first, which are unordered
-- (k11-unordered), handler 0 would find both values.
pub k11_other_order : Finds (look 0 2 (value 4) ∷ look 1 1 (value 3) ∷ []) (after k11_first (after k11_second (λ _. unset)))
unfolding after put
k11_other_order = record { looks = looks; repeats = repeats }
  where
    table : ℕ → Content ℕ
    table = after k11_first (after k11_second (λ _. unset))

    looks : (y source : ℕ) (v : Content ℕ) (sooner : List (Deed ℕ)) → Stands (look 0 2 (value 4) ∷ look 1 1 (value 3) ∷ []) (look y source v) sooner
        → after sooner table y ≡ v
    looks y source v sooner last = refl
    looks y source v sooner (older last) = refl
    looks y source v sooner (older (older q)) = elim q [ ]

    repeats : (y : ℕ) (v : Content ℕ) (sooner : List (Deed ℕ)) → Stands (look 0 2 (value 4) ∷ look 1 1 (value 3) ∷ []) (again y v) sooner
        → after sooner table y ≡ v
    repeats y v sooner (older (older q)) = elim q [ ]
