-- A case played on words by the promises' own definitions: words in, reply and words out, step after step.
use Rattle.std.specs.Prelude.{ℕ, List, [], ◌∷◌, ◌++◌, map, replicate, take}
use Rattle.rules.specs.steps.Replies.{Opening, ready, refused, Numbers, refusal_numbers, reply_numbers}
use Rattle.rules.specs.demand.Cases.{CaseStep, CaseStart, opened, given, CaseEnd, register, loose, Case}
use Rattle.promises.specs.Opening.{opening_refusal, opening_reply, opening_words}
use Rattle.promises.specs.Stepping.{turn_of, step_words}

-- All that is seen of a case: each reply, that of its opening first, and every word at the end.
pub record Seen : Type 0 where
  pub replies : List Numbers
  pub words : List ℕ

-- The reply to an opening, in numbers.
unfoldable pub opening_numbers : Opening → Numbers
opening_numbers ready = record { kind = 0; detail = 0; cell = 0 }
opening_numbers (refused refusal) = refusal_numbers refusal

-- The lines of a case, one after another.
unfoldable pub play_lines : List ℕ → List CaseStep → Seen
play_lines words [] = record { replies = []; words = words }
play_lines words (l ∷ lines) =
    let t = turn_of words l.handler l.code l.value in
    let rest = play_lines (step_words words t.reply t.after) lines in
    record { replies = reply_numbers t.reply ∷ rest.replies; words = rest.words }

-- A case from its start.
unfoldable pub play_from : CaseStart → List CaseStep → Seen
play_from (given words) lines = play_lines words lines
play_from (opened m n long reply) lines =
    let words : List ℕ = replicate long 7 in
    let refusal = opening_refusal words m n in
    let rest = play_lines (opening_words words m n refusal) lines in
    record { replies = opening_numbers (opening_reply refusal) ∷ rest.replies; words = rest.words }

-- What the promises make of a case.
unfoldable pub made : Case → Seen
made c = play_from c.start c.lines

-- Rows of words, one after another.
unfoldable pub join_rows : List (List ℕ) → List ℕ
join_rows [] = []
join_rows (row ∷ rows) = row ++ join_rows rows

-- The replies that a case says, that of its opening first.
unfoldable pub said_replies : CaseStart → List CaseStep → List Numbers
said_replies (given words) lines = map (λ l. l.reply) lines
said_replies (opened m n long reply) lines = reply ∷ map (λ l. l.reply) lines

-- The words m and n that a case starts with.
unfoldable pub said_counts : CaseStart → List ℕ
said_counts (given words) = take 2 words
said_counts (opened m n long reply) = m ∷ n ∷ []

-- The words that a case says: m and n, the cells, the handlers, and the words beyond.
unfoldable pub said_words : CaseStart → CaseEnd → List ℕ
said_words start (loose words) = words
said_words start (register cells handlers beyond) = said_counts start ++ (join_rows cells ++ (join_rows handlers ++ beyond))

-- What a case says.
unfoldable pub said : Case → Seen
said c = record { replies = said_replies c.start c.lines; words = said_words c.start c.end }
