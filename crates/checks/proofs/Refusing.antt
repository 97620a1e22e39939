-- The checks of a step one after another: what they come to where one holds first, and where none does.
use Rattle.std.proofs.Math.Option.{Option, none, some}
use Rattle.std.proofs.Common.{arith, ◌≡◌, ◌≤◌, ◌<◌, ℕ, refl, sym, Bool, true, false, not, ◌&&◌, [], ◌∷◌, Result, Ok, Err}
use borrow.Author.Tests.{le-leb, lt-leb}
use Rattle.rules.specs.steps.Codes.{Step, Kind, known, unknown}
use Rattle.rules.specs.steps.Replies.{Refusal, no_handler, no_cell, already_open, not_open, unknown_step}
use Rattle.rules.specs.steps.Checks.{◌when◌, first_hit, asking, is_beyond, is_begin, step_checks}
use Rattle.checks.specs.Promises.{verdict, VerdictPromise}

-- What the last two checks come to, by whether the step is a begin and whether the handler is open: 13 or 14, or the step.
abbrev pub phased : Step → Bool → Bool → Result Step Refusal
phased step true true = Err already_open
phased step true false = Ok step
phased step false true = Ok step
phased step false false = Err not_open

-- They come to it.
phase_checks_lem : (step : Step) (begins opened : Bool) → phased step begins opened
    ≡ verdict (first_hit ((already_open when (begins && opened)) ∷ (not_open when (not begins && not opened)) ∷ [])) (known step)
unfolding first_hit
phase_checks_lem step true true = refl
phase_checks_lem step true false = refl
phase_checks_lem step false true = refl
phase_checks_lem step false false = refl

module _ (m n handler : ℕ) (opened : Bool) where
  -- What is promised of a kind of step.
  abbrev pub Says : Kind → Result Step Refusal → Type 0
  Says kind = VerdictPromise (asking true m n handler kind opened)

  -- What the checks come to is what is promised.
  says : {kind : Kind} {answer : Result Step Refusal}
      → answer ≡ verdict (first_hit (step_checks (asking true m n handler kind opened))) kind → Says kind answer
  says is = record { replied = is; left = refl }

  module _ {kind : Kind} where
    -- 15.
    pub stops_15 : kind ≡ unknown → Says kind (Err unknown_step)
    unfolding first_hit step_checks
    stops_15 is = says (rw is)

    module _ {step : Step} (is : kind ≡ known step) where
      -- 11.
      pub stops_11 : n ≤ handler → Says kind (Err no_handler)
      unfolding first_hit step_checks
      stops_11 beyond = says (rw (is, le-leb n handler beyond))

      module _ (inside : handler < n) where
        -- 12.
        pub stops_12 : is_beyond m (known step) ≡ true → Says kind (Err no_cell)
        unfolding first_hit step_checks
        stops_12 beyond = says (rw (is, lt-leb n handler inside, beyond))

        -- 13 or 14, or no refusal.
        pub stops_phased : is_beyond m (known step) ≡ false → {begins stands : Bool} → begins ≡ is_begin (known step) → opened ≡ stands
            → Says kind (phased step begins stands)
        unfolding first_hit step_checks
        stops_phased placed {begins} is_one stood =
            says (rw (is, lt-leb n handler inside, placed, is_one, sym stood) (phase_checks_lem step (is_begin (known step)) opened))

-- ── What an answer says of the checks ─────────────────────────────────

-- A step is no refusal.
step_no_refusal : {step : Step} {refusal : Refusal} → ◌≡◌ {A = Result Step Refusal} (Ok step) (Err refusal) → ⊥
step_no_refusal e = let z : ◌≡◌ {A = ℕ} 0 1 = cc in omega arith

module _ (m n handler : ℕ) (opened : Bool) where
  -- The first check that holds, of a kind of step.
  abbrev pub hit : Kind → Option Refusal
  hit kind = first_hit (step_checks (asking true m n handler kind opened))

  -- A step passes only where its kind is that of the code and no check holds.
  pub verdict_passes : (kind : Kind) {step : Step} → Ok step ≡ verdict (hit kind) kind → (kind ≡ known step) × (hit kind ≡ none)
  verdict_passes kind {step} e = by_hit (hit kind) kind e
    where
      by_hit : (found : Option Refusal) (k : Kind) → Ok step ≡ verdict found k → (k ≡ known step) × (found ≡ none)
      by_hit (some r) k e = absurd (step_no_refusal e)
      by_hit none (known s) e = (cc, refl)
      by_hit none unknown e = absurd (step_no_refusal e)

  -- A refusal is that of the first check that holds.
  pub verdict_refuses : (kind : Kind) {refusal : Refusal} → Err refusal ≡ verdict (hit kind) kind → hit kind ≡ some refusal
  unfolding first_hit step_checks
  verdict_refuses (known s) {refusal} e = by_hit (hit (known s)) e
    where
      by_hit : (found : Option Refusal) → Err refusal ≡ verdict found (known s) → found ≡ some refusal
      by_hit (some r) e = cc
      by_hit none e = absurd (step_no_refusal (sym e))
  verdict_refuses unknown {refusal} e = cc
