-- What an opening that is ready leaves: a ledger for m cells and n handlers that says no history.
use Prim.Native.Nat.{ℕ, zero, suc, ◌+◌, ◌*◌, ◌≤◌, ◌<◌}
use native.Mathlib.Omega.{arith}
use mathlib.Core.Path.{◌≡◌, refl, sym, ap, ◌∙◌, subst}
use mathlib.Core.Bool.{false, not}
use mathlib.Core.List.{List, [], ◌∷◌, ◌++◌}
use mathlib.Core.Option.{none}
use lib.Dec.{eqb}
use lib.ListN.{length, get_or, drop, length-append}
use Rattle.rules.specs.steps.Replies.{ready}
use Rattle.rules.specs.steps.Register.{no_cells, zeros}
use Rattle.rules.specs.steps.Given.{InRange}
use Rattle.rules.specs.history.History.{no_history}
use Rattle.rules.proofs.steps.Given.{range_tested}
use Rattle.rules.proofs.history.Alike.{SameHistory}
use Rattle.layout.specs.Bits.{has_bit}
use Rattle.layout.specs.Rows.{row}
use Rattle.layout.proofs.Bits.{has_mask, mask_none}
use Rattle.layout.proofs.Rows.{row_length, row_first, below_is}
use Rattle.promises.proofs.Leaves.{opening_passes, checks_passed}
use Rattle.ledger.specs.Entries.{ledger_long, Ledger, entry_in, handler_row}
use Rattle.ledger.specs.Histories.{deeds_of, commits_in, is_open, history_in}
use Rattle.ledger.specs.Noting.{empty_entry}
use Rattle.ledger.specs.Promises.{ledger_refusal, fresh_ledger, ledger_words, LedgerPromise}
use Rattle.ledger.proofs.Entries.{SameEntry}
use Rattle.ledger.proofs.Histories.{Says, empty_deeds, deeds_of_same, same_deeds, same_commits}

-- A word that is 0 is no cell's bit.
no_bit : (c : ℕ) → c < 32 → has_bit 0 c ≡ false
no_bit c inside = ap (λ (word : ℕ). has_bit word c) (sym (mask_none 32)) ∙ has_mask 32 no_cells c inside

module _ (m n : ℕ) (range : InRange m n) (rest : List ℕ) where
  -- A fresh ledger, with any words behind it.
  abbrev words : List ℕ
  words = fresh_ledger m n ++ rest

  -- Behind m and n the words of the ledger are 0.
  fresh_zero : (k : ℕ) → 2 ≤ k → k < ledger_long → get_or words k 0 ≡ 0
  unfolding fresh_ledger
  fresh_zero zero low inside = absurd (omega arith)
  fresh_zero (suc zero) low inside = absurd (omega arith)
  fresh_zero (suc (suc k)) low inside = row_first 5344 zeros rest k (omega arith)

  -- It is a ledger.
  fresh_ledger_lem : Ledger words
  unfolding fresh_ledger
  fresh_ledger_lem = record {
    long = omega (arith, length-append (m ∷ n ∷ row 5344 zeros) rest, row_length 5344 zeros);
    range = range;
    few = omega (arith, fresh_zero 2 (omega arith) (omega arith));
  }

  -- Each row behind the head says an entry with nothing noted.
  fresh_entry : (place : ℕ) → 1 ≤ place → place ≤ 80 → SameEntry (entry_in words place) (empty_entry 0)
  unfolding entry_in empty_entry
  fresh_entry place low high = record {
    head = fresh_zero (place * 66) (omega arith) (omega arith);
    cells = λ c l. record {
      written = ap (λ (word : ℕ). has_bit word c) (fresh_zero (place * 66 + 1) (omega arith) (omega arith)) ∙ no_bit c l;
      sources = fresh_zero (place * 66 + (2 + c)) (omega arith) (omega arith);
      copies = fresh_zero (place * 66 + (34 + c)) (omega arith) (omega arith);
    };
  }

  -- Each handler's row does.
  fresh_handler : (i : ℕ) → i < n → SameEntry (entry_in words (handler_row i)) (empty_entry 0)
  fresh_handler i seat = fresh_entry (handler_row i) (omega arith) (omega (arith, range.handlers))

  -- No handler is open,
  fresh_opened : (history_in words).opened ≡ (λ _. false)
  unfolding history_in fresh_ledger empty_entry
  fresh_opened = below_is n false (λ i. is_open (entry_in words (handler_row i))) (λ _. false)
      (λ i seat. ap (λ (head : ℕ). not (eqb head 0)) (fresh_handler i seat).head) (λ i l. refl)

  -- nor has one done anything.
  fresh_now : (history_in words).now ≡ (λ _. [])
  unfolding history_in fresh_ledger
  fresh_now = below_is n [] (λ i. deeds_of (entry_in words (handler_row i)) m) (λ _. [])
      (λ i seat. deeds_of_same m range.cells (fresh_handler i seat) ∙ empty_deeds 0 m) (λ i l. refl)

  -- They say no history.
  fresh_history : SameHistory no_history (history_in words)
  unfolding no_history history_in commits_in fresh_ledger
  fresh_history = record {
    commits = same_commits (ap (commits_in m words) (sym (fresh_zero 2 (omega arith) (omega arith))));
    opened = λ i. ap (λ table. table i) (sym fresh_opened);
    now = λ i. same_deeds (ap (λ table. table i) (sym fresh_now));
  }

  -- So it is fresh.
  fresh_is : Says m n words no_history
  unfolding fresh_ledger
  fresh_is = record { ledger = fresh_ledger_lem; cells = refl; handlers = refl; same = fresh_history }

-- What an opening that is ready leaves is fresh.
pub ledger_ready : {words : List ℕ} {m n : ℕ} {after : List ℕ} → LedgerPromise words m n ready after → Says m n after no_history
unfolding ledger_words ledger_refusal
ledger_ready {words} {m} {n} p =
    let passed = checks_passed m n (length words) ledger_long passes in
    subst (λ words. Says m n words no_history) (sym (p.left ∙ rw passes)) (fresh_is m n ((range_tested m n).0 passed.0) (drop ledger_long words))
  where
    passes : ledger_refusal words m n ≡ none
    passes = opening_passes (ledger_refusal words m n) (sym p.replied)
