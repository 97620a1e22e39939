-- EVERYTHING THAT IS PRINTED OF A FILE, for all bytes: by the runner, and by the judge, which stops at a 65th commit. And what it
-- means to print it into a lent buffer.
use Rattle.std.specs.Prelude.{ℕ, List, [], ◌++◌, ltb, if◌then◌else◌}
use Rattle.rules.specs.Promise.{Due, Promise}
use Rattle.rules.specs.steps.Register.{Register}
use Rattle.replies.specs.Ends.{cell_line}
use Rattle.text.specs.Bytes.{in_turn}
use Rattle.text.specs.Lies.{putting}
use Rattle.lines.specs.Texts.{header_text, lines_text, cell_text, refused_text}
use Rattle.runs.specs.ByRules.{Played, ran, run_of}
use Rattle.agreement.specs.Agreement.{cut_after, commits_among}

-- Each cell with what it holds and its own number.
abbrev pub register_text : ℕ → Register ℕ → List ℕ
register_text m register = in_turn m (λ c. cell_text c (cell_line c (register.cells c)))

-- The text of what a file comes to: a header, a line for each order byte, then each cell; or a refused file's one line.
unfoldable pub played_text : Played → List ℕ
played_text (ran n m run) = header_text n m ++ lines_text run.lines ++ register_text m run.register
played_text (Played.refused refusal) = refused_text refusal

-- Everything that the runner prints of a file.
abbrev pub printed : List ℕ → List ℕ
printed file = played_text (run_of file)

-- The judge's text: the runner's up to a 65th commit, where `refused 33` stands and no cell is shown.
unfoldable pub judged_text : Played → List ℕ
judged_text (ran n m run) =
    let cells = if ltb 64 (commits_among run.lines) then [] else (register_text m run.register) in
    header_text n m ++ lines_text (cut_after 64 run.lines) ++ cells
judged_text (Played.refused refusal) = refused_text refusal

-- Everything that the judge prints of a file.
abbrev pub judged_printed : List ℕ → List ℕ
judged_printed file = judged_text (run_of file)

-- ── Printed into a buffer ─────────────────────────────────────────────

-- What printing is given: the file, and the lent buffer.
pub record PrintCall : Type 0 where
  pub file : List ℕ
  pub buffer : List ℕ

-- What printing comes to: the text of the file is put into the buffer.
abbrev pub printing : (List ℕ → List ℕ) → PrintCall → Due ℕ (List ℕ)
printing text call = putting (text call.file) call.buffer

-- THE PROMISE OF A WHOLE RUN.
abbrev pub RunPromise : List ℕ → List ℕ → ℕ → List ℕ → Type 0
RunPromise file buffer reply after = Promise (printing printed) (record { file = file; buffer = buffer }) reply after

-- THE PROMISE OF A WHOLE RUN BY THE JUDGE.
abbrev pub JudgedRunPromise : List ℕ → List ℕ → ℕ → List ℕ → Type 0
JudgedRunPromise file buffer reply after = Promise (printing judged_printed) (record { file = file; buffer = buffer }) reply after
