-- `sheets::put_counts` meets its contract: the words of the row become the counts, one after another, and no others.
use mathlib.Core.Path.{refl}
use native.Mathlib.Omega.{arith}
use lib.ListN.{length-set}
use Rattle.words.proofs.Changes.{changed_none, changed_more}
use Rattle.counts.specs.Rows.{in_column}
use Rattle.sheets.proofs.put_counts.Goals as goal

pub bounds-sheet-at-2 : goal.bounds-sheet-at-2
bounds-sheet-at-2 c = simp length-set (omega arith)

pub bounds-sheet-at-3 : goal.bounds-sheet-at-3
bounds-sheet-at-3 c = simp length-set (omega arith)

pub bounds-sheet-at-4 : goal.bounds-sheet-at-4
bounds-sheet-at-4 c = simp length-set (omega arith)

pub bounds-sheet-at-5 : goal.bounds-sheet-at-5
bounds-sheet-at-5 c = simp length-set (omega arith)

pub bounds-sheet-at-6 : goal.bounds-sheet-at-6
bounds-sheet-at-6 c = simp length-set (omega arith)

pub returns : goal.returns
returns c = let table = in_column c.args.counts in
    let words = c.args.sheet.now in
    let none = changed_none c.args.at table words (omega arith) in
    let one = changed_more c.args.at table words 0 _ _ none (omega arith) refl in
    let two = changed_more c.args.at table words 1 _ _ one (omega arith) refl in
    let three = changed_more c.args.at table words 2 _ _ two (omega arith) refl in
    let four = changed_more c.args.at table words 3 _ _ three (omega arith) refl in
    let five = changed_more c.args.at table words 4 _ _ four (omega arith) refl in
    changed_more c.args.at table words 5 _ _ five (omega arith) refl
