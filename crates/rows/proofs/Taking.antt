-- A row of which so many steps are taken: none at first, then one more by the register's promise and the report that is put, and in the
-- end all. And whether there is room for the reports.
use Rattle.std.proofs.Common.{ℕ, suc, ◌+◌, ◌*◌, ◌≤◌, ◌<◌, ◌≡◌, refl, sym, ap, ap₂, ◌∙◌, subst, not, List, [], ◌∷◌, ◌++◌, append_assoc}
use Rattle.std.proofs.Common.{arith, leb, ltb, length, get_or, set, take, drop, take-append-drop, drop_at, drop-drop, length-take-le}
use Rattle.std.proofs.Common.{length-append, length-drop, get_or-drop, add-one, ltb-true, ltb-false, le-leb}
use Rattle.std.proofs.lemmas.Bool.{lt-leb}
use Rattle.std.proofs.lemmas.List.{get_or_append_left}
use Rattle.std.proofs.lemmas.List.Edits.{sets-eq}
use Rattle.rules.specs.steps.Replies.{Reply, Numbers, reply_numbers}
use Rattle.rules.specs.demand.Demand.{Ask}
use Rattle.rules.proofs.steps.Tables.{by}
use Rattle.limits.specs.Limits.{step_width, report_width}
use Rattle.layout.specs.Rows.{splice}
use Rattle.layout.specs.WellFormed.{WellFormed}
use Rattle.layout.proofs.Untouched.{splice_untouched}
use Rattle.promises.specs.Stepping.{StepPromise}
use Rattle.promises.proofs.Leaves.{step_size}
use Rattle.rows.specs.Rows.{steps_in, asking, report_of, words_after, reports_of}
use Rattle.rows.proofs.Steps.{steps_count, ask_at, steps_grow, words_both, reports_both, reports_length, splice_both}

-- ── Room ──────────────────────────────────────────────────────────────

-- As many reports fit from a place on as whole ones are left there.
pub room_left : (long place count whole : ℕ) → place + report_width * whole ≤ long → long < place + report_width * suc whole
    → leb count whole ≡ not (ltb long (place + report_width * count))
room_left long place count whole fits last = by (ltb long (place + report_width * count))
    (λ short. rw (short, lt-leb count whole (omega (arith, ltb-true long (place + report_width * count) short))))
    (λ enough. rw (enough, le-leb count whole (omega (arith, ltb-false long (place + report_width * count) enough))))

-- ── A report ──────────────────────────────────────────────────────────

-- The words of a report, stored one by one, are put in.
pub report_stored : (reports : List ℕ) (at : ℕ) (a : Ask ℕ) (reply : Reply ℕ) {handler code : ℕ} {numbers : Numbers}
    → handler ≡ a.handler → code ≡ a.code → numbers ≡ reply_numbers reply → at + report_width ≤ length reports
    → set (set (set (set (set reports (at + 0) handler) (at + 1) code) (at + 2) numbers.kind) (at + 3) numbers.detail) (at + 4) numbers.cell
    ≡ splice at report_width (report_of a reply) reports
report_stored reports at a reply {handler} {code} {numbers} by_handler by_code told fits =
    let report : List ℕ = handler ∷ code ∷ numbers.kind ∷ numbers.detail ∷ numbers.cell ∷ [] in
    let first : at + 0 ≡ at = omega arith in
    let second : at + 1 ≡ suc at = omega arith in
    let third : at + 2 ≡ suc (suc at) = omega arith in
    let fourth : at + 3 ≡ suc (suc (suc at)) = omega arith in
    let fifth : at + 4 ≡ suc (suc (suc (suc at))) = omega arith in
    rw (first, second, third, fourth, fifth)
    (sets-eq report reports at (omega arith) ∙ append_assoc (take at reports) report (drop (at + report_width) reports)
    ∙ (λ i. splice at report_width (by_handler i ∷ by_code i ∷ (told i).kind ∷ (told i).detail ∷ (told i).cell ∷ []) reports))

-- ── One step more ─────────────────────────────────────────────────────

-- So many steps of a row are taken: what they leave of the register's words, and of the words for reports.
pub record TakesTo (words steps reports : List ℕ) (place k : ℕ) (after told : List ℕ) : Type 0 where
  pub formed : WellFormed after
  pub left : after ≡ words_after words (take k (steps_in steps))
  pub size : length after ≡ length words
  pub put : told ≡ splice place (report_width * k) (reports_of words (take k (steps_in steps))) reports
  pub long : length told ≡ length reports

-- In front of the words that are left, three words are the next step: it is one of the row, and the others are left behind it.
pub step_next : (steps : List ℕ) (k : ℕ) (step : List ℕ) {rest : List ℕ} → length step ≡ step_width → drop (step_width * k) steps ≡ step ++ rest
    → (step_width * suc k ≤ length steps) × (ask_at steps (step_width * k) ≡ ask_at step 0) × (rest ≡ drop (step_width * (k + 1)) steps)
step_next steps k step {rest} three front = (omega (arith, three, simp (length-drop, length-append) at (ap length front)), same, behind)
  where
    word : (j : ℕ) → j < step_width → get_or steps (step_width * k + j) 0 ≡ get_or step j 0
    word j inside =
        sym (get_or-drop (step_width * k) steps j 0) ∙ ap (λ words. get_or words j 0) front
        ∙ get_or_append_left step rest 0 j (omega (arith, three))

    same : ask_at steps (step_width * k) ≡ ask_at step 0
    same i = record { handler = word 0 (omega arith) i; code = word 1 (omega arith) i; value = word 2 (omega arith) i }

    behind : rest ≡ drop (step_width * (k + 1)) steps
    behind =
        sym (drop_at step rest step_width three) ∙ ap (drop step_width) (sym front) ∙ drop-drop step_width (step_width * k) steps
        ∙ ap (λ words. drop words steps) (let next : step_width * k + step_width ≡ step_width * (k + 1) = omega arith in next)

module _ (words steps reports : List ℕ) (place : ℕ) where
  -- None is taken.
  pub takes_none : WellFormed words → TakesTo words steps reports place 0 words reports
  unfolding words_after reports_of
  takes_none formed = record { formed = formed; left = refl; size = refl; put = put; long = refl }
    where
      put : reports ≡ splice place (report_width * 0) [] reports
      put =
          let place_is : place ≡ place + report_width * 0 = omega arith in
          sym (take-append-drop place reports) ∙ ap (λ (at : ℕ). take place reports ++ drop at reports) place_is

  module _ (k : ℕ) (whole : step_width * suc k ≤ length steps) (fits : place + report_width * suc k ≤ length reports)
      {after told next saying : List ℕ} {a : Ask ℕ} {reply : Reply ℕ} where
    -- The next is taken, and reported behind the others.
    pub takes_next_lem : TakesTo words steps reports place k after told → ask_at steps (step_width * k) ≡ a
        → StepPromise after a.handler a.code a.value reply next → WellFormed next
        → saying ≡ splice (place + report_width * k) report_width (report_of (record { handler = a.handler; code = a.code; value = 0 }) reply) told
        → TakesTo words steps reports place (k + 1) next saying
    unfolding words_after reports_of
    takes_next_lem before is p formed reported = subst (λ (n : ℕ). TakesTo words steps reports place n next saying) (sym (add-one k)) (record {
      formed = formed;
      left = p.left ∙ ap (λ (from : List ℕ). (asking from a).leaves) before.left
          ∙ sym (words_both words asks (a ∷ [])) ∙ ap (words_after words) (sym grown);
      size = step_size p ∙ before.size;
      put = put;
      long = ap length put ∙ (splice_untouched place (report_width * suc k) (reports_of words (take (suc k) (steps_in steps))) reports counted fits).size;
    })
      where
        asks : List (Ask ℕ)
        asks = take k (steps_in steps)

        grown : take (suc k) (steps_in steps) ≡ asks ++ (a ∷ [])
        grown = steps_grow k steps whole ∙ ap (λ (one : Ask ℕ). asks ++ (one ∷ [])) is

        -- The reports of k steps, and of one more.
        so_long : (n : ℕ) → step_width * n ≤ length steps → length (reports_of words (take n (steps_in steps))) ≡ report_width * n
        so_long n enough =
            reports_length words (take n (steps_in steps))
            ∙ ap (λ (count : ℕ). report_width * count) (length-take-le n (steps_in steps) (omega (arith, steps_count steps)))

        counted : length (reports_of words (take (suc k) (steps_in steps))) ≡ report_width * suc k
        counted = so_long (suc k) whole

        replied : reply ≡ (asking (words_after words asks) a).reply
        replied = p.replied ∙ ap (λ (from : List ℕ). (asking from a).reply) before.left

        more : reports_of words asks ++ report_of a reply ≡ reports_of words (take (suc k) (steps_in steps))
        more =
            ap (λ (r : Reply ℕ). reports_of words asks ++ report_of a r) replied
            ∙ sym (reports_both words asks (a ∷ [])) ∙ ap (reports_of words) (sym grown)

        put : saying ≡ splice place (report_width * suc k) (reports_of words (take (suc k) (steps_in steps))) reports
        put =
            let width : report_width * k + report_width ≡ report_width * suc k = omega arith in
            reported ∙ ap (splice (place + report_width * k) report_width (report_of a reply)) before.put
            ∙ splice_both place (report_width * k) report_width (reports_of words asks) (report_of a reply) reports (so_long k (omega arith)) (omega arith)
            ∙ ap₂ (λ (long : ℕ) (new : List ℕ). splice place long new reports) width more
