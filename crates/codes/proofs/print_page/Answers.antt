-- What is written is the page.
use Rattle.std.proofs.Common.{rules, ◌≡◌, ◌∙◌, length, subst}
use Rattle.std.proofs.lemmas.Result.{on_ok_weaker}
use Rattle.std.specs.Io.KnownBytes.{Appends}
use Rattle.manual.specs.Page.{page_bytes}
use Rattle.filters.proofs.Written.{text_in_front}
use Rattle.codes.proofs.print_page.Goals as goal

pub returns : goal.returns
returns g c =
    let promise = c.put_codes-long.ensures.codes_promise in
    let room : page_bytes ≡ length c.put_codes-long.new.buffer = search rules in
    let fits = c.put_codes-long.ensures.upper_bound in
    let stands = text_in_front _ _ _ _ _ promise.replied promise.left fits (room ∙ c.put_codes-long.auto.buffer) in
    on_ok_weaker _ (subst (Appends _ _) stands) c.write_front.ensures.written
