-- The ordered lists of checks give each number exactly when Given.antt says, and let a step through exactly when it is free.
use Prim.Native.Nat.{ℕ, ◌≤◌}
use mathlib.Core.Path.{◌≡◌, refl, sym, ◌∙◌, subst}
use mathlib.Core.Bool.{Bool, true, false, not, ◌&&◌}
use mathlib.Core.List.{List, [], ◌∷◌, ◌++◌}
use mathlib.Core.Logic.{◌↔◌, ◌⊎◌, inl, inr, ⊎_elim, ⊎_map}
use mathlib.Core.Option.{Option, none, some, some-injective, some-ne-none}
use lib.Dec.{leb, ltb}
use borrow.Author.Tests.{leb-true, leb-false, le-leb, lt-leb, ltb-true, lt-ltb}
use Rattle.rules.specs.steps.Codes.{Step, begin, try, give_up, read, write, Kind, known, unknown}
use Rattle.rules.specs.steps.Replies.{Refusal, not_well_formed, no_handler, no_cell, already_open, not_open, unknown_step, out_of_range}
use Rattle.rules.specs.steps.Replies.{too_short, bad_file, used_up, too_many_commits, sheet_full, no_room}
use Rattle.rules.specs.steps.Checks.{Check, ◌when◌, first_hit, Asked, is_beyond, is_begin, step_checks, in_range, opening_checks}
use Rattle.rules.specs.steps.Given.{Within, Beyond, Late, Heard, Fitting, Given, malformed, unlisted, unseated, outside, twice, early, phase_for, Free}
use Rattle.rules.specs.steps.Given.{InRange, OpeningGiven, wrong_counts, wrong_length}
use Rattle.rules.proofs.steps.Tables.{and_iff, leb_iff, by, both_ways}

-- Where each G gives its own answer, and one G holds or there is no answer, an answer is given exactly when its G holds.
pub exactly : {A : Type 0} {answer : Option A} (G : A → Type 0) → ((f : A) → G f → answer ≡ some f)
    → ((f : A) × G f) ⊎ (answer ≡ none) → (f : A) → (answer ≡ some f) ↔ G f
exactly {answer = answer} G hits decided f = (
  λ e. ⊎_elim (λ g. same e g.0 g.1) (λ q. absurd (some-ne-none f (sym e ∙ q))) decided,
  hits f,
)
  where
    same : answer ≡ some f → (other : _) → G other → G f
    same e other g = subst G (some-injective other f (sym (hits other g) ∙ e)) g

-- No check of a list holds just when the first does not and none of the others does.
pub none_holds : {A : Type 0} (a : A) (b : Bool) (checks : List (Check A))
    → (first_hit ((a when b) ∷ checks) ≡ none) ↔ ((b ≡ false) × (first_hit checks ≡ none))
unfolding first_hit
none_holds a true checks = (λ e. absurd (some-ne-none a e), λ h. both_ways refl h.0)
none_holds a false checks = (λ e. (refl, e), λ h. h.1)

-- What some checks say, others behind them do not change,
pub hit_front : {A : Type 0} (checks more : List (Check A)) {a : A} → first_hit checks ≡ some a → first_hit (checks ++ more) ≡ some a
unfolding first_hit
hit_front [] more {a} e = absurd (some-ne-none a (sym e))
hit_front (check ∷ checks) more e = by check.holds
    (λ h. rw h (rw h at e))
    (λ h. rw h (hit_front checks more (rw h at e)))

-- and where they say nothing, those do.
pub hit_behind : {A : Type 0} (checks more : List (Check A)) → first_hit checks ≡ none → first_hit (checks ++ more) ≡ first_hit more
unfolding first_hit
hit_behind [] more e = refl
hit_behind (check ∷ checks) more e = by check.holds
    (λ h. absurd (some-ne-none check.says (rw h at e)))
    (λ h. rw h (hit_behind checks more (rw h at e)))

-- Where no check of two lists holds, none of the first holds and none of the second.
pub none_of_both : {A : Type 0} (first second : List (Check A)) → first_hit (first ++ second) ≡ none
    → (first_hit first ≡ none) × (first_hit second ≡ none)
unfolding first_hit
none_of_both [] second e = (refl, e)
none_of_both (check ∷ first) second e =
    let (fails, others) = (none_holds check.says check.holds (first ++ second)).0 e in
    let (here, there) = none_of_both first second others in
    (rw fails here, there)

-- ── Cells named by a step ─────────────────────────────────────────────

-- A step of cell m or above passes the test of 12,
beyond_test : (m : ℕ) (s : Step) → Beyond m s → is_beyond m (known s) ≡ true
beyond_test m begin b = absurd b
beyond_test m try b = absurd b
beyond_test m give_up b = absurd b
beyond_test m (read x) b = le-leb m x b
beyond_test m (write x) b = le-leb m x b

-- and a step of no such cell fails it.
within_test : (m : ℕ) (s : Step) → Within m s → is_beyond m (known s) ≡ false
within_test m begin w = refl
within_test m try w = refl
within_test m give_up w = refl
within_test m (read x) w = lt-leb m x w
within_test m (write x) w = lt-leb m x w

-- A step that passes the test of 12 is of cell m or above,
test_beyond : (m : ℕ) (s : Step) → is_beyond m (known s) ≡ true → Beyond m s
test_beyond m begin e = both_ways e refl
test_beyond m try e = both_ways e refl
test_beyond m give_up e = both_ways e refl
test_beyond m (read x) e = leb-true m x e
test_beyond m (write x) e = leb-true m x e

-- and one that fails it is not.
test_within : (m : ℕ) (s : Step) → is_beyond m (known s) ≡ false → Within m s
test_within m begin e = tt
test_within m try e = tt
test_within m give_up e = tt
test_within m (read x) e = leb-false m x e
test_within m (write x) e = leb-false m x e

-- ── What is so, the lists say ─────────────────────────────────────────

module _ (a : Asked) where
  -- What the checks of a step say of what is asked.
  unfoldable says : Option Refusal
  says = first_hit (step_checks a)

  -- The checks of 13 and 14, for a step.
  abbrev phase_checks : Step → List (Check Refusal)
  phase_checks s =
      (already_open when (is_begin (known s) && a.opened)) ∷
      (not_open when (not (is_begin (known s)) && not a.opened)) ∷ []

  -- What the phase alone says of a step.
  abbrev phased : Step → Option Refusal
  phased s = first_hit (phase_checks s)

  -- A step that a handler of a well-formed register asks for is judged by its cell, and then by its phase.
  heard_says : (s : Step) → Heard a s → says ≡ first_hit ((no_cell when is_beyond a.cell_count (known s)) ∷ phase_checks s)
  unfolding says first_hit step_checks
  heard_says s h = rw (h.well_formed, h.known, lt-leb a.handler_count a.handler h.handler)

  -- A step of a cell that there is, is judged by its phase alone.
  fitting_says : (s : Step) → Fitting a s → says ≡ phased s
  unfolding first_hit
  fitting_says s p = heard_says s p.heard ∙ rw (within_test a.cell_count s p.cell)

  -- A step that is given a number is refused with it.
  given_says : (refusal : Refusal) → Given a refusal → says ≡ some refusal
  unfolding says first_hit step_checks
  given_says not_well_formed (malformed e) = rw e
  given_says unknown_step (unlisted e k) = rw (e, k)
  given_says no_handler (unseated s e k l) = rw (e, k, le-leb a.handler_count a.handler l)
  given_says no_cell (outside s h b) = heard_says s h ∙ rw (beyond_test a.cell_count s b)
  given_says already_open (twice p o) = fitting_says begin p ∙ rw o
  given_says out_of_range g = elim g [ ]
  given_says too_short g = elim g [ ]
  given_says bad_file g = elim g [ ]
  given_says used_up g = elim g [ ]
  given_says too_many_commits g = elim g [ ]
  given_says sheet_full g = elim g [ ]
  given_says no_room g = elim g [ ]
  given_says not_open (early s p l o) = fitting_says s p ∙ late s l
    where
      late : (s : Step) → Late s → phased s ≡ some not_open
      late begin l = absurd l
      late try l = rw o
      late give_up l = rw o
      late (read x) l = rw o
      late (write x) l = rw o

  -- A step that is free passes every check.
  free_passes : (s : Step) → Free a s → says ≡ none
  unfolding first_hit
  free_passes s f = fitting_says s f.fits ∙ allowed s f.phase
    where
      allowed : (s : Step) → a.opened ≡ phase_for s → phased s ≡ none
      allowed begin o = rw o
      allowed try o = rw o
      allowed give_up o = rw o
      allowed (read x) o = rw o
      allowed (write x) o = rw o

  -- ── What the lists say is so ────────────────────────────────────────

  -- One number is given, or the step is free.
  abbrev pub Verdict : Type 0
  Verdict = ((refusal : Refusal) × Given a refusal) ⊎ ((s : Step) × Free a s)

  -- A read, a write, a try or a give up of an open handler is free, and of an idle one is given 14.
  late_decides : (s : Step) → Fitting a s → phase_for s ≡ true → Late s → Verdict
  late_decides s p wanted late = by a.opened
      (λ o. inr (s, record { fits = p; phase = o ∙ sym wanted }))
      (λ o. inl (not_open, early s p late o))

  -- A step of a cell that there is, is given 13 or 14 or is free.
  phase_decides : (s : Step) → Fitting a s → Verdict
  phase_decides begin p = by a.opened (λ o. inl (already_open, twice p o)) (λ o. inr (begin, record { fits = p; phase = o }))
  phase_decides try p = late_decides try p refl tt
  phase_decides give_up p = late_decides give_up p refl tt
  phase_decides (read x) p = late_decides (read x) p refl tt
  phase_decides (write x) p = late_decides (write x) p refl tt

  -- A step that a handler asks for is given 12, 13 or 14 or is free.
  cell_decides : (s : Step) → Heard a s → Verdict
  cell_decides s h = by (is_beyond a.cell_count (known s))
      (λ e. inl (no_cell, outside s h (test_beyond a.cell_count s e)))
      (λ e. phase_decides s (record { heard = h; cell = test_within a.cell_count s e }))

  -- What is asked of a well-formed register is given 15, 11, 12, 13 or 14 or is free.
  kind_decides : a.well_formed ≡ true → (k : Kind) → a.kind ≡ k → Verdict
  kind_decides e unknown q = inl (unknown_step, unlisted e q)
  kind_decides e (known s) q = by (leb a.handler_count a.handler)
      (λ l. inl (no_handler, unseated s e q (leb-true a.handler_count a.handler l)))
      (λ l. cell_decides s (record { well_formed = e; known = q; handler = leb-false a.handler_count a.handler l }))

  -- Of every step one number is given, or it is free.
  pub verdict : Verdict
  verdict = by a.well_formed (λ e. kind_decides e a.kind refl) (λ e. inl (not_well_formed, malformed e))

-- The checks of a step give each number exactly then.
pub given_exactly : (a : Asked) (refusal : Refusal) → (first_hit (step_checks a) ≡ some refusal) ↔ Given a refusal
unfolding says
given_exactly a refusal =
    exactly (Given a) (given_says a) (⊎_map (λ g. g) (λ f. free_passes a f.0 f.1) (verdict a)) refusal

-- The checks of a step let it through exactly when it is free.
pub free_exactly : (a : Asked) → (first_hit (step_checks a) ≡ none) ↔ ((s : Step) × Free a s)
unfolding says
free_exactly a = (
  λ e. ⊎_elim (λ g. absurd (some-ne-none g.0 (sym (given_says a g.0 g.1) ∙ e))) (λ f. f) (verdict a),
  λ f. free_passes a f.0 f.1,
)

-- ── Opening ───────────────────────────────────────────────────────────

-- The test of m and n answers exactly that they are in range.
pub range_tested : (m n : ℕ) → (in_range m n ≡ true) ↔ InRange m n
unfolding in_range
range_tested m n = simp (and_iff, leb_iff) (to, from)
  where
    Each : Type 0
    Each = ((1 ≤ m) × (m ≤ 32)) × ((1 ≤ n) × (n ≤ 16))

    to : Each → InRange m n
    to r = record { some_cell = r.0.0; cells = r.0.1; some_handler = r.1.0; handlers = r.1.1 }

    from : InRange m n → Each
    from r = ((r.some_cell, r.cells), (r.some_handler, r.handlers))

-- The checks of an opening give each number exactly then.
pub opening_exactly : (m n long need : ℕ) (refusal : Refusal)
    → (first_hit (opening_checks m n long need) ≡ some refusal) ↔ OpeningGiven m n long need refusal
unfolding first_hit opening_checks
opening_exactly m n long need = exactly (OpeningGiven m n long need) hits decided
  where
    out : (InRange m n → ⊥) → in_range m n ≡ false
    out o = by (in_range m n) (λ e. absurd (o ((range_tested m n).0 e))) (λ e. e)

    hits : (f : Refusal) → OpeningGiven m n long need f → first_hit (opening_checks m n long need) ≡ some f
    hits out_of_range (wrong_counts o) = rw (out o)
    hits too_short (wrong_length r l) = rw ((range_tested m n).1 r, lt-ltb long need l)
    hits not_well_formed g = elim g [ ]
    hits no_handler g = elim g [ ]
    hits no_cell g = elim g [ ]
    hits already_open g = elim g [ ]
    hits not_open g = elim g [ ]
    hits unknown_step g = elim g [ ]
    hits bad_file g = elim g [ ]
    hits used_up g = elim g [ ]
    hits too_many_commits g = elim g [ ]
    hits sheet_full g = elim g [ ]
    hits no_room g = elim g [ ]

    decided : ((f : Refusal) × OpeningGiven m n long need f) ⊎ (first_hit (opening_checks m n long need) ≡ none)
    decided = by (in_range m n)
        (λ e. by (ltb long need)
        (λ l. inl (too_short, wrong_length ((range_tested m n).0 e) (ltb-true long need l)))
        (λ l. inr (rw (e, l))))
        (λ e. inl (out_of_range, wrong_counts (λ r. both_ways ((range_tested m n).1 r) e)))
