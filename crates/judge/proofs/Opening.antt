-- An opening of the judge by its ways: refused with 20 or 21 and nothing changed, or ready with a fresh ledger in front of the words.
use Rattle.std.proofs.Common.{ℕ, ◌+◌, ◌-◌, ◌<◌, ◌≤◌, arith, ◌≡◌, sym, ap, ap₂, ◌∙◌, true, List, ◌∷◌, ◌++◌, length, get_or, set, drop, length-set}
use Rattle.std.proofs.Common.{length-drop, ext_get_or, get_or-drop, drop-cons, get_or-set_same, get_or-set_other, le-ltb}
use mathlib.Core.Option.{some}
use Rattle.rules.specs.steps.Replies.{Refusal, too_short, Opening, ready}
use Rattle.rules.specs.steps.Register.{zeros}
use Rattle.rules.specs.steps.Checks.{first_hit, in_range, opening_checks}
use Rattle.rules.specs.steps.Given.{OpeningGiven, wrong_length}
use Rattle.rules.proofs.steps.Given.{range_tested, opening_exactly}
use Rattle.layout.specs.Rows.{row}
use Rattle.layout.proofs.Rows.{row_cut}
use Rattle.words.specs.Rows.{Changed}
use Rattle.promises.specs.Opening.{opening_reply}
use Rattle.ledger.specs.Entries.{ledger_long}
use Rattle.ledger.specs.Promises.{ledger_refusal, fresh_ledger, ledger_words, LedgerPromise}

module _ (words : List ℕ) (m n : ℕ) where
  -- What is given a number is refused with it.
  pub ledger_stops : (refusal : Refusal) → OpeningGiven m n (length words) ledger_long refusal
      → LedgerPromise words m n (Opening.refused refusal) words
  unfolding ledger_refusal opening_reply ledger_words
  ledger_stops refusal given =
      let said = (opening_exactly m n (length words) ledger_long refusal).1 given in
      record { replied = rw said; left = rw said }

  -- With m and n in range, words that are too few are refused with 21,
  pub ledger_short : in_range m n ≡ true → length words < ledger_long → ledger_refusal words m n ≡ some too_short
  unfolding ledger_refusal
  ledger_short ranged few =
      (opening_exactly m n (length words) ledger_long too_short).1 (wrong_length ((range_tested m n).0 ranged) few)

  -- and left as they are.
  pub short_left : ledger_refusal words m n ≡ some too_short → ledger_words words m n (ledger_refusal words m n) ≡ words
  unfolding ledger_words
  short_left e = rw e

  -- That is the reply.
  pub short_said : ledger_refusal words m n ≡ some too_short → opening_reply (ledger_refusal words m n) ≡ Opening.refused too_short
  unfolding opening_reply
  short_said e = rw e

  module _ (cleared : List ℕ) (long : ledger_long ≤ length words) (changed : Changed 2 5344 zeros words cleared) where
    -- The cleared words with m and n in front.
    abbrev opened : List ℕ
    opened = set (set cleared 0 m) 1 n

    -- No word but the first two is another.
    behind : (place : ℕ) → 2 ≤ place → get_or opened place 0 ≡ get_or cleared place 0
    behind place low = get_or-set_other (set cleared 0 m) 1 place n 0 (omega arith) ∙ get_or-set_other cleared 0 place m 0 (omega arith)

    -- There are as many words as before.
    opened_length : length opened ≡ length words
    opened_length = simp length-set changed.untouched.size

    -- They are a fresh ledger, and behind it what was there.
    opened_is : opened ≡ fresh_ledger m n ++ drop ledger_long words
    unfolding fresh_ledger
    opened_is =
        drop-cons opened 0 0 (omega (arith, opened_length))
        ∙ ap₂ ◌∷◌ (get_or-set_other (set cleared 0 m) 1 0 n 0 (omega arith) ∙ get_or-set_same cleared 0 m 0 (omega (arith, changed.untouched.size)))
        (drop-cons opened 1 0 (omega (arith, opened_length))
        ∙ ap₂ ◌∷◌ (get_or-set_same (set cleared 0 m) 1 n 0 (simp length-set (omega (arith, changed.untouched.size)))) rest)
      where
        rest : drop 2 opened ≡ row 5344 zeros ++ drop ledger_long words
        rest = row_cut 2 5344 zeros opened (omega (arith, opened_length)) (λ c l. behind (2 + c) (omega arith) ∙ changed.inside c l)
            ∙ ap (λ (end : List ℕ). row 5344 zeros ++ end) beyond
          where
            beyond : drop ledger_long opened ≡ drop ledger_long words
            beyond = ext_get_or 0 _ _ (simp length-drop (ap (λ (k : ℕ). k - ledger_long) opened_length))
                (λ y l. get_or-drop ledger_long opened y 0 ∙ behind (ledger_long + y) (omega arith)
                ∙ changed.untouched.above (ledger_long + y) (omega arith) ∙ sym (get_or-drop ledger_long words y 0))

    -- The opening is ready.
    pub ledger_opens : in_range m n ≡ true → LedgerPromise words m n ready opened
    unfolding ledger_refusal opening_reply ledger_words opening_checks first_hit
    ledger_opens ranged =
        let fits = le-ltb (length words) ledger_long long in
        record { replied = rw (ranged, fits); left = opened_is ∙ rw (ranged, fits) }
