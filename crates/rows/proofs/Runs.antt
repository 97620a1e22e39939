-- The third demand holds of rows: a run of words goes on with the steps of a row, one by one.
use Prim.Native.Nat.{ℕ}
use mathlib.Core.Path.{sym, ap, ◌∙◌, subst}
use mathlib.Core.List.{List, [], ◌∷◌, ◌++◌, append-nil, append_assoc}
use Rattle.rules.specs.steps.Replies.{Reply}
use Rattle.rules.specs.history.History.{History}
use Rattle.rules.specs.demand.Demand.{Ask}
use Rattle.layout.specs.Rows.{splice}
use Rattle.promises.specs.Runs.{WordRun, stepped, noted}
use Rattle.promises.proofs.Inherits.{words_inherit}
use Rattle.rows.specs.Rows.{steps_in, reports_long}
use Rattle.rows.specs.OneByOne.{OneByOne, done, next, noted_all, RowsInherit}
use Rattle.rows.proofs.Exactly.{row_known}
use Rattle.rows.proofs.OneByOne.{replies_of, reports_of_replies, one_by_one_there}

-- A run goes on with steps one by one, and their replies are noted.
pub goes_on : {m n : ℕ} {before : List (Ask ℕ)} {words : List ℕ} {h : History ℕ} → WordRun m n before words h
    → {asks : List (Ask ℕ)} {replies : List (Reply ℕ)} {after : List ℕ} → OneByOne asks words replies after
    → WordRun m n (before ++ asks) after (noted_all h asks replies)
unfolding noted_all
goes_on {m} {n} {before} {words} {h} ran done = subst (λ asks. WordRun m n asks words h) (sym (append-nil before)) ran
goes_on {m} {n} {before} {words} {h} ran {asks = a ∷ asks} {replies = reply ∷ replies} {after = after} (next p rest) =
    subst (λ all. WordRun m n all after (noted_all (noted h a reply) asks replies)) (append_assoc before (a ∷ []) asks)
    (goes_on {before = before ++ a ∷ []} (stepped a ran p) rest)

-- The third demand holds of rows.
pub rows_inherit : RowsInherit
rows_inherit m n asks words h ran steps reports place after told promise =
    let row = row_known promise in
    let new = steps_in steps in
    let replies = replies_of words new in
    let saying = sym (reports_of_replies words new) in
    let goes : WordRun m n (asks ++ new) after (noted_all h new replies) = rw row.left (goes_on ran (one_by_one_there words new)) in (
      replies,
      row.said ∙ ap (λ (told : List ℕ). splice place (reports_long new) told reports) saying,
      goes,
      words_inherit m n (asks ++ new) after (noted_all h new replies) goes,
    )
