-- The balance of a run: at every step, whatever is asked for, what was begun and what was open before comes to what was ended and what is
-- open afterwards; so it does over all order bytes of a file.
use Rattle.std.specs.Prelude.{if◌then◌else◌}
use Prim.Native.Nat.{ℕ, ◌+◌}
use native.Mathlib.Omega.{arith}
use mathlib.Core.Path.{◌≡◌, refl, sym, ap}
use mathlib.Core.Bool.{Bool, true}
use mathlib.Core.List.{List, [], ◌∷◌}
use lib.Dec.{eqb, leb}
use borrow.Author.Tests.{eqb-true, eqb-false}
use Rattle.rules.specs.steps.Tables.{put}
use Rattle.rules.specs.steps.Codes.{Step, begin, try, give_up, read, write, known}
use Rattle.rules.specs.steps.Replies.{Refusal, no_handler, used_up}
use Rattle.rules.specs.steps.Register.{Setting, Cell, Handler, Register, has_open, with_handler, idle, fresh}
use Rattle.rules.specs.steps.Given.{phase_for}
use Rattle.rules.specs.steps.Figure as Figure
use Rattle.rules.specs.steps.Figure.{Result, wrote, taken, stamped, stored, aborting, committing, step}
use Rattle.rules.specs.steps.Turn.{Turn, turn}
use Rattle.rules.proofs.steps.Tables.{by, put_here, put_other}
use Rattle.rules.proofs.steps.Steps.{has_taken, reading_cases, trying_cases}
use Rattle.rules.proofs.steps.Turns.{turn_cases, turn_leaves}
use Rattle.rules.proofs.steps.Ways.{Ways, step_leaves}
use Rattle.layout.specs.View.{word_setting}
use Rattle.lines.specs.Lines.{Line, no_step, step_line}
use Rattle.schedule.specs.Sound.{order_in}
use Rattle.schedule.specs.Scripts.{ScriptStep}
use Rattle.schedule.specs.Admitting.{Admission, admission_of}
use Rattle.runs.specs.ByRules.{RunState, next_asked, ordered, run_from, started, played_by, run_of}
use Rattle.counts.specs.Counting.{column, begun, committed, torn, overtaken, spent, gave_up, raised_by, raised, is_in, adds}
use Rattle.sheets.specs.Sheets.{raised_for, raises, count_in}
use Rattle.sheets.specs.Files.{replies, open_at_end}

-- The counts of transactions that ended, by a commit or by an abort.
abbrev pub ended : (ℕ → ℕ) → ℕ
ended count = count (column committed) + (count (column torn) + (count (column overtaken) + (count (column spent) + count (column gave_up))))

-- What was begun and what was open before comes to what was ended and what is open afterwards.
abbrev pub Balanced : (ℕ → ℕ) → ℕ → ℕ → Type 0
Balanced count before after = count (column begun) + before ≡ ended count + after

-- 1 where a handler of the register has a transaction open.
abbrev pub open_in : Register ℕ → ℕ → ℕ
open_in r handler = if has_open (r.handlers handler) then 1 else 0

-- ── One step ──────────────────────────────────────────────────────────

module _ (S : Setting ℕ) (r : Register ℕ) (i : ℕ) where
  -- The handler whose step it is.
  abbrev handler : Handler ℕ
  handler = r.handlers i

  -- A handler put in its place is open or not as it is.
  open_here : (cells : ℕ → Cell ℕ) (h : Handler ℕ)
      → open_in (with_handler (record { cells = cells; handlers = r.handlers }) i h) i ≡ (if has_open h then 1 else 0)
  unfolding with_handler
  open_here cells h = ap (λ (there : Handler ℕ). if has_open there then 1 else 0) (put_here r.handlers i h)

  -- What a step comes to balances for its handler.
  abbrev Balances : Step → Result ℕ → Type 0
  Balances s result = Balanced (adds (raised_by (known s) result.outcome)) (open_in r i) (open_in result.after i)

  -- Every step that finds its handler in the phase that it wants balances for it.
  step_balances : (s : Step) (v : ℕ) → has_open handler ≡ phase_for s → Balances s (step S r i s v)
  unfolding step raised_by is_in Figure.begun wrote taken aborting committing idle
  step_balances begin v phase = rw phase (omega (arith, open_here r.cells (Figure.begun S handler)))
  step_balances give_up v phase = rw phase (omega (arith, open_here r.cells (idle S handler.numbers)))
  step_balances (write x) v phase = rw phase (omega (arith, open_here r.cells (wrote handler x v)))
  step_balances (read x) v phase = reading_cases S r i handler (Balances (read x)) x
      (λ copied. omega arith)
      (λ first y is_torn. rw phase (omega (arith, open_here r.cells (idle S handler.numbers))))
      (λ first is_taken. rw phase (omega (arith, open_here r.cells (has_taken r handler x))))
  step_balances try v phase = trying_cases S r i handler (Balances try)
      (λ z stale. rw phase (omega (arith, open_here r.cells (idle S handler.numbers))))
      (λ current z full. rw phase (omega (arith, open_here r.cells (idle S handler.numbers))))
      (λ current roomy. rw phase (omega (arith, open_here (stored r handler) (idle S (stamped r handler)))))

module _ (m n : ℕ) (well_formed : Bool) (r : Register ℕ) (i code v : ℕ) where
  -- The turn that is taken or refused.
  abbrev gets : Turn ℕ
  gets = turn (word_setting m) n well_formed r i code v

  -- Every turn balances for its handler.
  pub turn_balances : Balanced (adds (raised code gets.reply)) (open_in r i) (open_in gets.after i)
  unfolding raised is_in
  turn_balances = turn_cases (word_setting m) n well_formed r i code v
      (λ t. Balanced (adds (raised code t.reply)) (open_in r i) (open_in t.after i))
      (λ refusal given. omega arith)
      (λ s free. rw free.fits.heard.known (step_balances (word_setting m) r i s v free.phase))

  -- A turn leaves every other handler as it was.
  pub turn_others : (j : ℕ) → (j ≡ i → ⊥) → gets.after.handlers j ≡ r.handlers j
  unfolding with_handler aborting committing
  turn_others j ne = turn_leaves (word_setting m) n well_formed r i code v Kept refl
      (λ s free. step_leaves (word_setting m) Kept r i ways s free.fits.cell v)
    where
      Kept : Register ℕ → Type 0
      Kept q = q.handlers j ≡ r.handlers j

      kept : (h : Handler ℕ) → put r.handlers i h j ≡ r.handlers j
      kept h = put_other r.handlers i h j ne

      ways : Ways (word_setting m) Kept r i
      ways = record {
        stays = refl;
        begins = kept _;
        writes = λ x l v. kept _;
        reads = λ x l _ _. kept _;
        aborts = kept _;
        commits = λ _ _. kept _;
      }

-- ── One order place ───────────────────────────────────────────────────

-- A line balances for a handler, between two registers.
abbrev BalancedAt : ℕ → Line → Register ℕ → Register ℕ → Type 0
BalancedAt j line before after = Balanced (λ k. if raises j k line then 1 else 0) (open_in before j) (open_in after j)

-- A line that balances for its own handler, where all others are as they were, balances for every handler.
line_balances : (line : Line) (before after : Register ℕ)
    → Balanced (adds (raised_for line.code line.reply)) (open_in before line.handler) (open_in after line.handler)
    → ((j : ℕ) → (j ≡ line.handler → ⊥) → after.handlers j ≡ before.handlers j)
    → (j : ℕ) → BalancedAt j line before after
line_balances line before after own others j = by (eqb line.handler j)
    (λ e. rw (e, ← eqb-true line.handler j e) own)
    (λ e. rw (e, others j (λ same. eqb-false line.handler j e (sym same))))

-- A place where no step is taken balances,
no_step_balances : (r : Register ℕ) (place handler : ℕ) (refusal : Refusal) (j : ℕ) → BalancedAt j (no_step place handler refusal) r r
unfolding is_in
no_step_balances r place handler refusal =
    line_balances (no_step place handler refusal) r r (omega arith) (λ j ne. refl)

module _ (m n : ℕ) where
  -- a step that is asked balances,
  asked_balances : (s : RunState) (place handler : ℕ) (steps : List ScriptStep) (j : ℕ)
      → let here = next_asked m n s place handler steps in
      BalancedAt j here.line s.register here.after.register
  unfolding next_asked
  asked_balances s place handler [] j = no_step_balances s.register place handler used_up j
  asked_balances s place handler (step ∷ steps) j =
      let t = gets m n true s.register handler step.code step.value in
      line_balances (step_line place handler step.code t.reply) s.register t.after
      (turn_balances m n true s.register handler step.code step.value)
      (turn_others m n true s.register handler step.code step.value) j

  -- and so every place does.
  place_balances : (s : RunState) (place handler j : ℕ)
      → let here = ordered m n s place handler in
      BalancedAt j here.line s.register here.after.register
  unfolding ordered
  place_balances s place handler j = by (leb n handler)
      (λ e. rw e (no_step_balances s.register place handler no_handler j))
      (λ e. rw e (asked_balances s place handler (s.left handler) j))

  -- ── A run ───────────────────────────────────────────────────────────

  -- The lines of all order places together balance for every handler.
  pub run_balances : (order : List ℕ) (s : RunState) (place j : ℕ)
      → let run = run_from m n s place order in
      Balanced (λ k. count_in j k run.lines) (open_in s.register j) (open_in run.register j)
  unfolding run_from count_in
  run_balances [] s place j = omega arith
  run_balances (handler ∷ order) s place j =
      omega (arith, place_balances s place handler j, run_balances order (ordered m n s place handler).after (place + 1) j)

-- What a file comes to balances for every handler: none has a transaction open before the first step.
pub file_balances : (file : List ℕ) (j : ℕ) → Balanced (λ k. replies j k (run_of file)) 0 (open_at_end j (run_of file))
unfolding run_of played_by started fresh idle count_in
file_balances file j = admitted (admission_of file)
  where
    admitted : (admission : Admission) → Balanced (λ k. replies j k (played_by file admission)) 0 (open_at_end j (played_by file admission))
    admitted (Admission.refused refusal) = omega arith
    admitted (Admission.sound n m) = run_balances m n (order_in file) (started file m) 0 j
