-- How a row grows by one step at its end: the steps that some words say, the words after them, their reports, and the words that the
-- reports stand in. And how long each of these is.
use Prim.Native.Nat.{ℕ, zero, suc, ◌+◌, ◌*◌, ◌/◌, ◌≤◌}
use mathlib.Core.Path.{◌≡◌, refl, sym, ap, ap₂, ◌∙◌}
use mathlib.Core.List.{List, [], ◌∷◌, ◌++◌, append_assoc}
use native.Mathlib.Omega.{arith}
use lib.ListN.{length, get_or, take, drop, length-append, length-take}
use lib.Seq.{take_at, drop_at, drop-drop}
use Rattle.rules.specs.demand.Demand.{Ask}
use Rattle.limits.specs.Limits.{step_width, report_width}
use Rattle.layout.specs.Rows.{splice}
use Rattle.rows.specs.Rows.{steps_in, asking, report_of, words_after, reports_of}

-- ── The steps that some words say ─────────────────────────────────────

-- As many steps as whole steps fit the words.
pub steps_count : (steps : List ℕ) → length (steps_in steps) ≡ length steps / step_width
unfolding steps_in
steps_count [] = refl
steps_count (handler ∷ []) = refl
steps_count (handler ∷ code ∷ []) = refl
steps_count (handler ∷ code ∷ value ∷ more) = omega (arith, steps_count more)

-- The step that stands at a place of the words.
abbrev pub ask_at : List ℕ → ℕ → Ask ℕ
ask_at steps at = record { handler = get_or steps (at + 0) 0; code = get_or steps (at + 1) 0; value = get_or steps (at + 2) 0 }

-- One step more of the row is the one that stands behind the others.
pub steps_grow : (k : ℕ) (steps : List ℕ) → step_width * suc k ≤ length steps
    → take (suc k) (steps_in steps) ≡ take k (steps_in steps) ++ (ask_at steps (step_width * k) ∷ [])
unfolding steps_in
steps_grow k [] fits = absurd (omega arith)
steps_grow k (handler ∷ []) fits = absurd (omega arith)
steps_grow k (handler ∷ code ∷ []) fits = absurd (omega arith)
steps_grow zero (handler ∷ code ∷ value ∷ more) fits = refl
steps_grow (suc k) (handler ∷ code ∷ value ∷ more) fits =
    ap (λ (rest : List (Ask ℕ)). record { handler = handler; code = code; value = value } ∷ rest)
    (steps_grow k more (omega arith) ∙ ap (λ (a : Ask ℕ). take k (steps_in more) ++ (a ∷ [])) later)
  where
    -- A word of the steps behind the first.
    word : (j : ℕ) → get_or more (step_width * k + j) 0 ≡ get_or (handler ∷ code ∷ value ∷ more) (step_width * suc k + j) 0
    word j =
        let place : suc (suc (suc (step_width * k + j))) ≡ step_width * suc k + j = omega arith in
        ap (λ (at : ℕ). get_or (handler ∷ code ∷ value ∷ more) at 0) place

    later : ask_at more (step_width * k) ≡ ask_at (handler ∷ code ∷ value ∷ more) (step_width * suc k)
    later i = record { handler = word 0 i; code = word 1 i; value = word 2 i }

-- ── The words after steps, and their reports ──────────────────────────

-- The words after steps and others behind them.
pub words_both : (words : List ℕ) (first second : List (Ask ℕ)) → words_after words (first ++ second) ≡ words_after (words_after words first) second
unfolding words_after
words_both words [] second = refl
words_both words (a ∷ first) second = words_both (asking words a).leaves first second

-- Their reports.
pub reports_both : (words : List ℕ) (first second : List (Ask ℕ))
    → reports_of words (first ++ second) ≡ reports_of words first ++ reports_of (words_after words first) second
unfolding words_after reports_of
reports_both words [] second = refl
reports_both words (a ∷ first) second =
    ap (λ (rest : List ℕ). report_of a (asking words a).reply ++ rest) (reports_both (asking words a).leaves first second)
    ∙ sym (append_assoc (report_of a (asking words a).reply) (reports_of (asking words a).leaves first) _)

-- So many words for each.
pub reports_length : (words : List ℕ) (asks : List (Ask ℕ)) → length (reports_of words asks) ≡ report_width * length asks
unfolding reports_of
reports_length words [] = refl
reports_length words (a ∷ asks) = omega (arith, reports_length (asking words a).leaves asks)

-- ── Where the reports stand ───────────────────────────────────────────

-- What is put in behind a part is put in with it.
pub splice_both : (from long more : ℕ) (new next words : List ℕ) → length new ≡ long → from + long ≤ length words
    → splice (from + long) more next (splice from long new words) ≡ splice from (long + more) (new ++ next) words
splice_both from long more new next words size fits =
    ap₂ (λ (before after : List ℕ). before ++ (next ++ after)) before after
    ∙ append_assoc (take from words) new (next ++ end)
    ∙ ap (λ (rest : List ℕ). take from words ++ rest) (sym (append_assoc new next end))
  where
    rest : List ℕ
    rest = drop (from + long) words

    end : List ℕ
    end = drop (from + (long + more)) words

    -- The words in front of what is put in are those that the first part ends.
    whole : splice from long new words ≡ (take from words ++ new) ++ rest
    whole = sym (append_assoc (take from words) new rest)

    front : length (take from words ++ new) ≡ from + long
    front = simp (length-append, length-take) (omega arith)

    before : take (from + long) (splice from long new words) ≡ take from words ++ new
    before = ap (take (from + long)) whole ∙ take_at (take from words ++ new) rest (from + long) front

    after : drop (from + long + more) (splice from long new words) ≡ end
    after =
        let place : from + long + more ≡ from + (long + more) = omega arith in
        sym (drop-drop more (from + long) (splice from long new words))
        ∙ ap (drop more) (ap (drop (from + long)) whole ∙ drop_at (take from words ++ new) rest (from + long) front)
        ∙ drop-drop more (from + long) words ∙ ap (λ (at : ℕ). drop at words) place
