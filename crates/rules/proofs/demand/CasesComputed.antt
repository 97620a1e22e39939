-- Cases K8 to K11 of docs/RULES.md, what is shown, and what is in a causal past and what is not: histories and answers, all computed.
use Prim.Native.Nat.{ℕ}
use mathlib.Core.Path.{◌≡◌, refl}
use mathlib.Core.Bool.{true, false}
use mathlib.Core.List.{List, [], ◌∷◌, ◌++◌}
use Rattle.rules.specs.steps.Tables.{put}
use Rattle.rules.specs.steps.Replies.{torn, overtaken, unset, value, shows, aborted}
use Rattle.rules.specs.steps.Figure.{cell_shows}
use Rattle.rules.specs.steps.Turn.{turn}
use Rattle.rules.specs.history.History.{Deed, look, set, Commit, Abort, some_look, every_commit}
use Rattle.rules.specs.history.Past.{has_read_from, in_past, up_to}
use Rattle.rules.specs.history.Replay.{after, replay}
use Rattle.rules.specs.demand.Demand.{Ask, reported_to}
use Rattle.rules.proofs.demand.CaseHistories.{two, begins, tries, gives, reads, writes, reached, commits_after, reply_to, answer_to}
use Rattle.rules.proofs.demand.CaseHistories.{is_first, Answered, overtakes}

-- ── What is shown ─────────────────────────────────────────────────────

-- Cell 0 is written by now; handler 0, which reads it again, is still shown the version that it read, the opening's.
pub overtakes_again : (reply_to overtakes 0 ≡ reported_to 0 32 (shows unset)) × (answer_to overtakes 0 ≡ shows unset)
unfolding reached answer_to overtakes
overtakes_again = (refl, refl)

-- The two cells then: a value, and nothing, which is not the 0 that the cell holds.
pub overtakes_cells : (cell_shows 0 ((reached overtakes).register.cells 0) ≡ value 5) × (cell_shows 1 ((reached overtakes).register.cells 1) ≡ unset)
unfolding reached overtakes
overtakes_cells = (refl, refl)

-- ── K8 ────────────────────────────────────────────────────────────────

-- K8: handler 2 reads that and commits 1 := 6, which handler 0 reads.
unfoldable pub k8 : List (Ask ℕ)
unfolding overtakes
k8 = overtakes ++ (begins 2 ∷ reads 2 0 ∷ writes 2 1 6 ∷ tries 2 ∷ [])

-- Handler 2's commit drew on handler 1's.
pub k8_commits : commits_after k8
    ≡ record { handler = 2; deeds = set 1 6 ∷ look 0 1 (value 5) ∷ [] } ∷ record { handler = 1; deeds = set 0 5 ∷ [] } ∷ []
unfolding reached k8
k8_commits = refl

-- Cell 1's numbers are (1,1): those of its writer with its past.
pub k8_numbers : (((reached k8).register.cells 1).numbers 0 ≡ 1) × (((reached k8).register.cells 1).numbers 1 ≡ 1)
unfolding reached k8
k8_numbers = (refl, refl)

-- Handler 0 is answered abort 1.
pub k8_answered : Answered k8 1 (aborted (torn 0))
unfolding is_first reached answer_to k8
k8_answered = record { first = refl; reply = refl; judged = refl }

-- The read that aborted its transaction is not among the deeds.
pub k8_aborts : (reached (k8 ++ (reads 0 1 ∷ []))).history.aborts
    ≡ record { handler = 0; deeds = look 0 0 unset ∷ []; stood = 2 } ∷ []
unfolding reached k8
k8_aborts = refl

-- ── K9 ────────────────────────────────────────────────────────────────

-- K9: handler 1 commits 1 := 6 in a second transaction, which handler 0 reads.
unfoldable pub k9 : List (Ask ℕ)
unfolding overtakes
k9 = overtakes ++ (begins 1 ∷ writes 1 1 6 ∷ tries 1 ∷ [])

-- Handler 1's second commit drew on nobody's.
pub k9_commits : commits_after k9
    ≡ record { handler = 1; deeds = set 1 6 ∷ [] } ∷ record { handler = 1; deeds = set 0 5 ∷ [] } ∷ []
unfolding reached k9
k9_commits = refl

-- Handler 0 is answered abort 1.
pub k9_answered : Answered k9 1 (aborted (torn 0))
unfolding is_first reached answer_to k9
k9_answered = record { first = refl; reply = refl; judged = refl }

-- ── K10 ───────────────────────────────────────────────────────────────

-- K10: handler 2 commits 1 := 6, blind, which handler 0 reads.
unfoldable pub k10 : List (Ask ℕ)
unfolding overtakes
k10 = overtakes ++ (begins 2 ∷ writes 2 1 6 ∷ tries 2 ∷ [])

-- Handler 0 is answered with that value.
pub k10_answered : Answered k10 1 (shows (value 6))
unfolding is_first reached answer_to k10
k10_answered = record { first = refl; reply = refl; judged = refl }

-- Cell 1 shows it, though its number for cell 0 is 0.
pub k10_shows : cell_shows 1 ((reached k10).register.cells 1) ≡ value 6
unfolding reached k10
k10_shows = refl

-- K10 with that read.
unfoldable pub k10_read : List (Ask ℕ)
unfolding k10
k10_read = k10 ++ (reads 0 1 ∷ [])

-- Then handler 0's transaction is open,
pub k10_open : (reached k10_read).history.opened 0 ≡ true
unfolding reached k10_read
k10_open = refl

-- and its try is answered abort 2.
pub k10_overtaken : (turn two 4 true (reached k10_read).register 0 1 0).reply ≡ reported_to 0 1 (aborted (overtaken 0))
unfolding reached k10_read
k10_overtaken = refl

-- K10 with the read and the try.
unfoldable pub k10_tried : List (Ask ℕ)
unfolding k10_read
k10_tried = k10_read ++ (tries 0 ∷ [])

-- The commits of K10, of which neither drew on the other.
abbrev pub k10_commits : List (Commit ℕ)
k10_commits = record { handler = 2; deeds = set 1 6 ∷ [] } ∷ record { handler = 1; deeds = set 0 5 ∷ [] } ∷ []

-- The transaction of handler 0 that was aborted.
abbrev pub k10_aborted : Abort ℕ
k10_aborted = record { handler = 0; deeds = look 1 2 (value 6) ∷ look 0 0 unset ∷ []; stood = 2 }

-- That is the whole history of K10.
pub k10_history : (commits_after k10_tried ≡ k10_commits) × ((reached k10_tried).history.aborts ≡ k10_aborted ∷ [])
unfolding reached k10_tried
k10_history = (refl, refl)

-- All commits leave 5 in cell 0.
pub k10_all : replay k10_commits every_commit 0 ≡ value 5
unfolding replay after put
k10_all = refl

-- ── K11 ───────────────────────────────────────────────────────────────

-- K11: handler 1 commits 1 := 3, which handler 0 reads; handler 2 commits 0 := 4 and 1 := 8; handler 0 reads cell 0.
unfoldable pub k11 : List (Ask ℕ)
k11 = begins 1 ∷ writes 1 1 3 ∷ tries 1 ∷ begins 0 ∷ reads 0 1 ∷ begins 2 ∷ writes 2 0 4 ∷ writes 2 1 8 ∷ tries 2 ∷ []

-- Handler 0 is answered abort 1.
pub k11_answered : Answered k11 0 (aborted (torn 1))
unfolding is_first reached answer_to k11
k11_answered = record { first = refl; reply = refl; judged = refl }

-- What handler 1 did.
abbrev pub k11_first : List (Deed ℕ)
k11_first = set 1 3 ∷ []

-- What handler 2 did.
abbrev pub k11_second : List (Deed ℕ)
k11_second = set 1 8 ∷ set 0 4 ∷ []

-- Those are the commits of K11.
pub k11_commits : commits_after k11 ≡ record { handler = 2; deeds = k11_second } ∷ record { handler = 1; deeds = k11_first } ∷ []
unfolding reached k11
k11_commits = refl

-- The first commit is not in the past of the second, so that in the source's legality the two may change places.
pub k11_unordered : in_past (record { handler = 1; deeds = k11_first } ∷ []) 2 k11_second 1 ≡ false
unfolding in_past has_read_from some_look
k11_unordered = refl

-- ── In the past ───────────────────────────────────────────────────────

-- Handler 2 reads cell 0 and commits, having written nothing; then it commits 1 := 6, blind.
unfoldable pub read_only : List (Ask ℕ)
unfolding overtakes
read_only = overtakes ++ (begins 2 ∷ reads 2 0 ∷ tries 2 ∷ begins 2 ∷ writes 2 1 6 ∷ tries 2 ∷ [])

-- That is three commits.
pub read_only_commits : commits_after read_only
    ≡ record { handler = 2; deeds = set 1 6 ∷ [] }
    ∷ record { handler = 2; deeds = look 0 1 (value 5) ∷ [] }
    ∷ record { handler = 1; deeds = set 0 5 ∷ [] } ∷ []
unfolding reached read_only
read_only_commits = refl

-- The read-only commit wrote no version, and still carries its past to the next commit of its handler.
pub read_only_carries : up_to (commits_after read_only) 3 1 ≡ true
unfolding reached read_only up_to in_past has_read_from
read_only_carries = refl

-- Handler 0, which reads cell 1, is answered abort 1.
pub read_only_answered : Answered read_only 1 (aborted (torn 0))
unfolding is_first reached answer_to read_only
read_only_answered = record { first = refl; reply = refl; judged = refl }

-- Handler 2 reads cell 0 and commits 1 := 6; handler 3 reads that and commits 1 := 7. It has read nothing of handler 1, whose
-- commit is in its past through handler 2's.
unfoldable pub past_of_past : List (Ask ℕ)
unfolding overtakes
past_of_past = overtakes ++ (begins 2 ∷ reads 2 0 ∷ writes 2 1 6 ∷ tries 2 ∷ begins 3 ∷ reads 3 1 ∷ writes 3 1 7 ∷ tries 3 ∷ [])

-- Handler 0, which reads cell 1, is answered abort 1.
pub past_of_past_answered : Answered past_of_past 1 (aborted (torn 0))
unfolding is_first reached answer_to past_of_past
past_of_past_answered = record { first = refl; reply = refl; judged = refl }

-- ── Not in the past ───────────────────────────────────────────────────

-- Handler 2 reads cell 0; handler 3 commits 0 := 9, so that handler 2's try is aborted; then handler 2 commits 1 := 6, blind.
unfoldable pub aborted_read : List (Ask ℕ)
unfolding overtakes
aborted_read = overtakes
    ++ (begins 2 ∷ reads 2 0 ∷ begins 3 ∷ writes 3 0 9 ∷ tries 3 ∷ tries 2 ∷ begins 2 ∷ writes 2 1 6 ∷ tries 2 ∷ [])

-- The aborted transaction had read handler 1's version.
pub aborted_read_aborts : (reached aborted_read).history.aborts ≡ record { handler = 2; deeds = look 0 1 (value 5) ∷ []; stood = 2 } ∷ []
unfolding reached aborted_read
aborted_read_aborts = refl

-- What the aborted transaction had read is not in the past of its handler's next.
pub aborted_read_past : up_to (commits_after aborted_read) 3 1 ≡ false
unfolding reached aborted_read up_to in_past has_read_from
aborted_read_past = refl

-- Handler 0, which reads cell 1, is answered with its value.
pub aborted_read_answered : Answered aborted_read 1 (shows (value 6))
unfolding is_first reached answer_to aborted_read
aborted_read_answered = record { first = refl; reply = refl; judged = refl }

-- Handler 2 reads cell 0 and gives up; then it commits 1 := 6, blind.
unfoldable pub given_up : List (Ask ℕ)
unfolding overtakes
given_up = overtakes ++ (begins 2 ∷ reads 2 0 ∷ gives 2 ∷ begins 2 ∷ writes 2 1 6 ∷ tries 2 ∷ [])

-- The transaction that gave up is aborted, and had read handler 1's version.
pub given_up_aborts : (reached given_up).history.aborts ≡ record { handler = 2; deeds = look 0 1 (value 5) ∷ []; stood = 1 } ∷ []
unfolding reached given_up
given_up_aborts = refl

-- What it had read is not in the past of its handler's next.
pub given_up_past : up_to (commits_after given_up) 2 1 ≡ false
unfolding reached given_up up_to in_past has_read_from
given_up_past = refl

-- Handler 0, which reads cell 1, is answered with its value.
pub given_up_answered : Answered given_up 1 (shows (value 6))
unfolding is_first reached answer_to given_up
given_up_answered = record { first = refl; reply = refl; judged = refl }

-- Handler 2 reads cell 0 and commits 1 := 6, as in K8; handler 3 overwrites that with 1 := 7, blind, and hides its past.
unfoldable pub blind : List (Ask ℕ)
unfolding overtakes
blind = overtakes ++ (begins 2 ∷ reads 2 0 ∷ writes 2 1 6 ∷ tries 2 ∷ begins 3 ∷ writes 3 1 7 ∷ tries 3 ∷ [])

-- Handler 0, which reads cell 1, is answered with handler 3's value.
pub blind_answered : Answered blind 1 (shows (value 7))
unfolding is_first reached answer_to blind
blind_answered = record { first = refl; reply = refl; judged = refl }
