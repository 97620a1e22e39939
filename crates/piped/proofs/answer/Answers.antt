-- What is written is the text of all that there was to read.
use Rattle.std.proofs.Common.{rules, ◌≡◌, ◌+◌, length}
use Rattle.std.proofs.lemmas.Result.{on_ok_weaker}
use Rattle.limits.specs.Limits.{most_file_bytes}
use Rattle.filters.proofs.Written.{text_in_front, written_of_read}
use Rattle.piped.specs.Texts.{text_of}
use Rattle.piped.proofs.Fronts.{text_of_front}
use Rattle.piped.proofs.answer.Goals as goal

pub returns-clause-written : goal.returns-clause-written
returns-clause-written g c =
    let file = c.read_file.new.file in
    let long_file : length file ≡ most_file_bytes + 1 = search rules in
    let promise = c.put_text-long.ensures.text_promise in
    let stands = text_in_front _ _ _ _ _ promise.replied promise.left c.put_text-long.ensures.upper_bound c.room-buffer.ensures in
    on_ok_weaker c.write_front.result (λ put. written_of_read _ _ _ (text_of c.args.player) _ _ _ _ (text_of_front c.args.player) (search rules) long_file stands put)
    c.write_front.ensures.written
