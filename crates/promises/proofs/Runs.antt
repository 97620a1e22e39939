-- A run of words follows the rules: the words stay well formed and keep m and n, they say the register that the rules' run leads
-- to, each reply is the rules' reply, and the history is the rules' history.
use Prim.Native.Nat.{ℕ, ◌≤◌}
use mathlib.Core.Path.{◌≡◌, refl, sym, ap, ap₂, ◌∙◌, subst}
use mathlib.Core.Bool.{true}
use mathlib.Core.List.{List, [], ◌∷◌, ◌++◌, append-nil, append_assoc}
use mathlib.Core.Option.{none}
use lib.ListN.{length}
use borrow.Author.Tests.{le-ltb}
use Rattle.rules.specs.steps.Replies.{Reply, ready}
use Rattle.rules.specs.steps.Register.{Setting, fresh}
use Rattle.rules.specs.steps.Checks.{first_hit, opening_checks}
use Rattle.rules.specs.steps.Given.{InRange}
use Rattle.rules.specs.steps.Turn.{turn}
use Rattle.rules.specs.history.History.{History, no_history}
use Rattle.rules.specs.demand.Demand.{Ask, State, start, moved, run}
use Rattle.rules.proofs.steps.Given.{range_tested}
use Rattle.layout.specs.Places.{cells_of, handlers_of, size, body_of}
use Rattle.layout.specs.View.{word_setting, view, register_in}
use Rattle.layout.specs.WellFormed.{WellFormed}
use Rattle.layout.proofs.Tested.{tested}
use Rattle.layout.proofs.Kept.{Keeps}
use Rattle.promises.specs.Opening.{opening_refusal, opening_reply, opening_words, OpeningPromise}
use Rattle.promises.specs.Stepping.{turn_of, StepPromise}
use Rattle.promises.specs.Runs.{noted, WordRun, opened, stepped}
use Rattle.promises.proofs.Leaves.{step_keeps, step_says, Ready, opening_ready}

-- A run of the rules, with one step more.
run_more : {W : Type 0} (S : Setting W) (n : ℕ) (s : State W) (asks : List (Ask W)) (a : Ask W)
    → run S n s (asks ++ (a ∷ [])) ≡ moved S n (run S n s asks) a
unfolding run
run_more S n s [] a = refl
run_more S n s (b ∷ asks) a = run_more S n (moved S n s b) asks a

-- The state that the rules come to from a fresh register of m cells and n handlers.
abbrev pub by_rules : ℕ → ℕ → List (Ask ℕ) → State ℕ
by_rules m n asks = run (word_setting m) n (start (word_setting m)) asks

-- The words and the history follow the rules, after these steps.
pub record FollowsRules (m n : ℕ) (asks : List (Ask ℕ)) (words : List ℕ) (h : History ℕ) : Type 0 where
  pub well_formed : WellFormed words
  pub cell_count : cells_of words ≡ m
  pub handler_count : handlers_of words ≡ n
  pub says : view m n (body_of words) ≡ (by_rules m n asks).register
  pub history : h ≡ (by_rules m n asks).history

-- Words that an opening left ready follow the rules.
opened_follows : {m n : ℕ} {words after : List ℕ} → OpeningPromise words m n ready after → FollowsRules m n [] after no_history
unfolding run start
opened_follows {m} {n} {words} {after} p = record {
  well_formed = left.well_formed;
  cell_count = left.cell_count;
  handler_count = left.handler_count;
  says = left.says;
  history = refl;
}
  where
    left : Ready words m n after
    left = opening_ready p

module _ {m n : ℕ} {asks : List (Ask ℕ)} {words : List ℕ} {h : History ℕ} (follows : FollowsRules m n asks words h) where
  -- The rules' turn on the words is their turn on the register that the words say.
  turn_said : (i code v : ℕ) → turn_of words i code v ≡ turn (word_setting m) n true (view m n (body_of words)) i code v
  unfolding turn_of
  turn_said i code v = rw (follows.cell_count, follows.handler_count, (tested words).1 follows.well_formed)

  -- Each reply is the rules' reply.
  pub rules_reply : {i code v : ℕ} {reply : Reply ℕ} {after : List ℕ} → StepPromise words i code v reply after
      → reply ≡ (turn (word_setting m) n true (view m n (body_of words)) i code v).reply
  rules_reply {i} {code} {v} p = p.replied ∙ ap (λ t. t.reply) (turn_said i code v)

  -- One step more follows the rules.
  stepped_follows : (a : Ask ℕ) {reply : Reply ℕ} {after : List ℕ}
      → StepPromise words a.handler a.code a.value reply after
      → FollowsRules m n (asks ++ (a ∷ [])) after (noted h a reply)
  unfolding moved
  stepped_follows a {reply} {after} p = record {
    well_formed = keeps.well_formed;
    cell_count = keeps.cell_count ∙ follows.cell_count;
    handler_count = keeps.handler_count ∙ follows.handler_count;
    says = rw next (said ∙ ap (λ t. t.after) (turn_said a.handler a.code a.value) ∙ rw follows.says);
    history = rw next (rw (rules_reply p, follows.says, follows.history));
  }
    where
      keeps : Keeps words after
      keeps = step_keeps p follows.well_formed

      next : by_rules m n (asks ++ (a ∷ [])) ≡ moved (word_setting m) n (by_rules m n asks) a
      next = run_more (word_setting m) n (start (word_setting m)) asks a

      said : view m n (body_of after) ≡ (turn_of words a.handler a.code a.value).after
      said = ap₂ (λ cells handlers. view cells handlers (body_of after)) (sym follows.cell_count) (sym follows.handler_count)
          ∙ step_says p

-- Every run of words follows the rules.
pub run_follows : {m n : ℕ} {asks : List (Ask ℕ)} {words : List ℕ} {h : History ℕ} → WordRun m n asks words h
    → FollowsRules m n asks words h
run_follows (opened p) = opened_follows p
run_follows (stepped a before p) = stepped_follows (run_follows before) a p

-- ── There are runs ────────────────────────────────────────────────────

-- A run of these steps, with the words and the history that it comes to.
pub record Ran (m n : ℕ) (asks : List (Ask ℕ)) : Type 0 where
  pub words : List ℕ
  pub history : History ℕ
  pub run : WordRun m n asks words history

-- A run goes on with any list of steps.
goes_on : {m n : ℕ} {done : List (Ask ℕ)} {words : List ℕ} {h : History ℕ} → WordRun m n done words h
    → (asks : List (Ask ℕ)) → Ran m n (done ++ asks)
goes_on {m} {n} {done} ran [] = subst (Ran m n) (sym (append-nil done)) (record { words = _; history = _; run = ran })
goes_on {m} {n} {done} ran (a ∷ asks) = subst (Ran m n) (append_assoc done (a ∷ []) asks)
    (goes_on {done = done ++ a ∷ []} (stepped a ran (record { replied = refl; left = refl })) asks)

-- The checks of an opening say nothing where m and n are in range, and there are as many words as are needed.
pub checks_pass : (m n long need : ℕ) → InRange m n → need ≤ long → first_hit (opening_checks m n long need) ≡ none
unfolding opening_checks first_hit
checks_pass m n long need ranged fits = rw ((range_tested m n).1 ranged, le-ltb long need fits)

-- Words that are long enough, with m and n in range, are opened and ready.
pub opens : (words : List ℕ) (m n : ℕ) → InRange m n → size m n ≤ length words
    → OpeningPromise words m n ready (register_in words m n (fresh (word_setting m)))
unfolding opening_refusal opening_reply opening_words
opens words m n ranged fits = let passes = checks_pass m n (length words) (size m n) ranged fits in record { replied = rw passes; left = rw passes }

-- So every list of steps has a run, for all m and n in range and all words that are long enough.
pub every_run : (words : List ℕ) (m n : ℕ) → InRange m n → size m n ≤ length words → (asks : List (Ask ℕ)) → Ran m n asks
every_run words m n ranged fits asks = goes_on (opened (opens words m n ranged fits)) asks
