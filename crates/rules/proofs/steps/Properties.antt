-- What a reader expects of the steps: what each leaves alone, and what an abort leaves. Properties are numbered as in PI 1923.
use Prim.Native.Nat.{ℕ}
use native.Mathlib.Omega.{arith}
use mathlib.Core.Path.{◌≡◌, refl, ap}
use Rattle.rules.specs.steps.Codes.{Step, begin, try, give_up, read, write}
use Rattle.rules.specs.steps.Replies.{Reason, gave_up, Content, Outcome, ok, shows, committed, aborted, reason_number}
use Rattle.rules.specs.steps.Register.{Setting, Handler, Register, with_handler, idle}
use Rattle.rules.specs.steps.Figure.{Result, aborting, step}
use Rattle.rules.proofs.steps.Tables.{put_other}
use Rattle.rules.proofs.steps.Steps.{reading_cases, trying_cases}

-- ── What a step leaves alone ──────────────────────────────────────────

-- The register q is r but for handler i.
pub record OneHandler {W : Type 0} (r : Register W) (i : ℕ) (q : Register W) : Type 0 where
  pub cells : q.cells ≡ r.cells
  pub others : (j : ℕ) → (j ≡ i → ⊥) → q.handlers j ≡ r.handlers j

module _ {W : Type 0} where
  -- The same register is so,
  unchanged : (r : Register W) (i : ℕ) → OneHandler r i r
  unchanged r i = record { cells = refl; others = λ j ne. refl }

  -- and so is the register with another handler i.
  one_changed : (r : Register W) (i : ℕ) (h : Handler W) → OneHandler r i (with_handler r i h)
  unfolding with_handler
  one_changed r i h = record { cells = refl; others = λ j ne. put_other r.handlers i h j ne }

  -- An answer ok is no abort,
  pub ok_no_abort : (reason : Reason) → ◌≡◌ {A = Outcome W} ok (aborted reason) → ⊥
  ok_no_abort reason e = let z : ◌≡◌ {A = ℕ} 0 1 = cc in omega arith

  -- nor is a commit,
  pub commit_no_abort : (reason : Reason) → ◌≡◌ {A = Outcome W} committed (aborted reason) → ⊥
  commit_no_abort reason e = let z : ◌≡◌ {A = ℕ} 0 1 = cc in omega arith

  -- nor is what a read shows.
  pub shows_no_abort : (v : Content W) (reason : Reason) → shows v ≡ aborted reason → ⊥
  shows_no_abort v reason e = let z : ◌≡◌ {A = ℕ} 0 1 = cc in omega arith

  -- Two aborts that are the same have one number.
  same_number : {a b : Reason} → ◌≡◌ {A = Outcome W} (aborted a) (aborted b) → reason_number a ≡ reason_number b
  same_number {a} {b} e = let same : a ≡ b = cc in ap reason_number same

module _ {W : Type 0} (S : Setting W) where
  -- Begin, read, write and give up change one handler only.
  pub changes_one : (r : Register W) (i : ℕ) (s : Step) (v : W) → (s ≡ try → ⊥) → OneHandler r i (step S r i s v).after
  unfolding step aborting
  changes_one r i begin v ne = one_changed r i _
  changes_one r i try v ne = absurd (ne refl)
  changes_one r i give_up v ne = one_changed r i _
  changes_one r i (read x) v ne =
      reading_cases S r i (r.handlers i) (λ result. OneHandler r i result.after) x
      (λ copied. unchanged r i) (λ first y is_torn. one_changed r i _) (λ first is_taken. one_changed r i _)
  changes_one r i (write x) v ne = one_changed r i _

  -- Property 3: no write aborts.
  pub write_never_aborts : (r : Register W) (i x : ℕ) (v : W) → (step S r i (write x) v).outcome ≡ ok
  unfolding step
  write_never_aborts r i x v = refl

  -- ── What an abort leaves ────────────────────────────────────────────

  -- Where a result is an abort, handler i is idle with the numbers that it had, and all else is as before.
  abbrev EndsIdle : Register W → ℕ → Reason → Result W → Type 0
  EndsIdle r i reason result =
      result.outcome ≡ aborted reason → result.after ≡ with_handler r i (idle S (r.handlers i).numbers)

  -- An abort ends the transaction and leaves all else as before: the handler is idle with the numbers that it had.
  pub abort_ends : (r : Register W) (i : ℕ) (s : Step) (v : W) (reason : Reason)
      → (step S r i s v).outcome ≡ aborted reason → (step S r i s v).after ≡ with_handler r i (idle S (r.handlers i).numbers)
  unfolding step aborting
  abort_ends r i begin v reason = λ e. absurd (ok_no_abort reason e)
  abort_ends r i (write x) v reason = λ e. absurd (ok_no_abort reason e)
  abort_ends r i (read x) v reason =
      reading_cases S r i (r.handlers i) (EndsIdle r i reason) x
      (λ copied e. absurd (shows_no_abort _ reason e))
      (λ first y is_torn e. refl)
      (λ first is_taken e. absurd (shows_no_abort _ reason e))
  abort_ends r i try v reason =
      trying_cases S r i (r.handlers i) (EndsIdle r i reason)
      (λ z stale e. refl) (λ current z full e. refl) (λ current roomy e. absurd (commit_no_abort reason e))
  abort_ends r i give_up v reason = λ e. refl

  -- A give up always comes to abort 5. What it leaves is what every abort does (abort-ends).
  pub give_up_aborts : (r : Register W) (i : ℕ) (v : W) → (step S r i give_up v).outcome ≡ aborted gave_up
  unfolding step
  give_up_aborts r i v = refl

  -- No other step comes to it.
  pub only_give_up : (r : Register W) (i : ℕ) (s : Step) (v : W) → (step S r i s v).outcome ≡ aborted gave_up → s ≡ give_up
  unfolding step
  only_give_up r i begin v = λ e. absurd (ok_no_abort gave_up e)
  only_give_up r i (write x) v = λ e. absurd (ok_no_abort gave_up e)
  only_give_up r i give_up v = λ e. refl
  only_give_up r i (read x) v =
      reading_cases S r i (r.handlers i) (λ result. result.outcome ≡ aborted gave_up → read x ≡ give_up) x
      (λ copied e. absurd (shows_no_abort _ gave_up e))
      (λ first y is_torn e. let numbers : 1 ≡ 5 = same_number e in absurd (omega arith))
      (λ first is_taken e. absurd (shows_no_abort _ gave_up e))
  only_give_up r i try v =
      trying_cases S r i (r.handlers i) (λ result. result.outcome ≡ aborted gave_up → try ≡ give_up)
      (λ z stale e. let numbers : 2 ≡ 5 = same_number e in absurd (omega arith))
      (λ current z full e. let numbers : 3 ≡ 5 = same_number e in absurd (omega arith))
      (λ current roomy e. absurd (commit_no_abort gave_up e))
