-- What it means to put the text of a sheet, or the line of a file, into a lent buffer.
use Rattle.std.specs.Prelude.{ℕ, List}
use Rattle.std.proofs.Math.Option.{Option}
use Rattle.rules.specs.Promise.{Due, Promise}
use Rattle.rules.specs.steps.Replies.{Refusal}
use Rattle.text.specs.Lies.{putting}
use Rattle.summary.specs.Texts.{sheet_text, added_text}

-- What putting a sheet is given: its words, and the lent buffer.
pub record SheetCall : Type 0 where
  pub words : List ℕ
  pub buffer : List ℕ

-- What putting the line of a file is given: its name, the refusal if there is one, and the lent buffer.
pub record AddedCall : Type 0 where
  pub name : List ℕ
  pub refused : Option Refusal
  pub buffer : List ℕ

-- What putting a sheet comes to.
abbrev pub putting_sheet : SheetCall → Due ℕ (List ℕ)
putting_sheet call = putting (sheet_text call.words) call.buffer

-- What putting the line of a file comes to.
abbrev pub putting_added : AddedCall → Due ℕ (List ℕ)
putting_added call = putting (added_text call.name call.refused) call.buffer

-- THE PROMISE OF A SHEET'S TEXT.
abbrev pub SheetTextPromise : List ℕ → List ℕ → ℕ → List ℕ → Type 0
SheetTextPromise words buffer reply after = Promise putting_sheet (record { words = words; buffer = buffer }) reply after

-- THE PROMISE OF A FILE'S LINE.
abbrev pub AddedTextPromise : List ℕ → Option Refusal → List ℕ → ℕ → List ℕ → Type 0
AddedTextPromise name refused buffer reply after =
    Promise putting_added (record { name = name; refused = refused; buffer = buffer }) reply after
