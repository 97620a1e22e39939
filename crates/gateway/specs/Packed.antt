-- The promises of the register, of a row of steps and of a duty sheet said of numbers: 0 or a length, 0 or a refusal's number, and
-- kind · 2^32 + cell · 65,536 + value or number.
use Rattle.std.specs.Prelude.{ℕ, ◌+◌, ◌*◌, ◌^◌, List}
use Rattle.std.proofs.Math.Option.{Option, none, some}
use Rattle.rules.specs.Promise.{Due, Promise}
use Rattle.rules.specs.steps.Replies.{Opening, ready, refused, Refusal, refusal_number, Numbers, Reply, reply_numbers}
use Rattle.promises.specs.Lengths.{asks_length}
use Rattle.promises.specs.Opening.{opening}
use Rattle.promises.specs.Stepping.{stepping}
use Rattle.rows.specs.Rows.{rowing}
use Rattle.sheets.specs.Sheets.{adding}

-- A length as a number, 0 where there is none.
abbrev pub length_number : Option ℕ → ℕ
length_number (some k) = k
length_number none = 0

-- The reply to an opening as a number: 0, or the refusal's.
abbrev pub opening_number : Opening → ℕ
opening_number ready = 0
opening_number (refused refusal) = refusal_number refusal

-- A kind, a cell and a detail in one number; only an abort has a cell, and its detail is a reason's number.
unfoldable pub packed : Numbers → ℕ
packed n = n.kind * 2 ^ 32 + (n.cell * 65536 + n.detail)

-- What an operation of the register comes to, with its reply said as a number.
abbrev pub in_numbers : {Given Reply Left : Type 0} → (Reply → ℕ) → (Given → Due Reply Left) → Given → Due ℕ Left
in_numbers number operation given = record { reply = number (operation given).reply; leaves = (operation given).leaves }

-- The promise of a length.
abbrev pub LengthNumber : ℕ → ℕ → ℕ → Type 0
LengthNumber m n number = Promise (in_numbers length_number asks_length) (record { cells = m; handlers = n }) number tt

-- The promise of an opening.
abbrev pub OpeningNumber : List ℕ → ℕ → ℕ → ℕ → List ℕ → Type 0
OpeningNumber words m n number after =
    Promise (in_numbers opening_number opening) (record { words = words; cells = m; handlers = n }) number after

-- A reply to a step as a number.
abbrev pub reply_number : Reply ℕ → ℕ
reply_number reply = packed (reply_numbers reply)

-- The promise of a step.
abbrev pub StepNumber : List ℕ → ℕ → ℕ → ℕ → ℕ → List ℕ → Type 0
StepNumber words handler code value number after =
    Promise (in_numbers reply_number stepping) (record { words = words; handler = handler; code = code; value = value }) number after

-- The reply to a file for a sheet, or to a row, as a number: 0, or the refusal's.
abbrev pub refused_number : Option Refusal → ℕ
refused_number none = 0
refused_number (some refusal) = refusal_number refusal

-- The promise of adding a file to a sheet.
abbrev pub SheetNumber : List ℕ → List ℕ → ℕ → List ℕ → Type 0
SheetNumber words file number after = Promise (in_numbers refused_number adding) (record { words = words; file = file }) number after

-- The promise of a row of steps.
abbrev pub RowNumber : List ℕ → List ℕ → List ℕ → ℕ → ℕ → List ℕ → List ℕ → Type 0
RowNumber words steps reports place number after told =
    Promise (in_numbers refused_number rowing) (record { words = words; steps = steps; reports = reports; place = place }) number
    (record { words = after; reports = told })
