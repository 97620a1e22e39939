-- The page is computed: the rows at the borders are those written out, and all of it has just so many bytes.
use mathlib.Core.Path.{◌≡◌, refl}
use mathlib.Core.List.{[], ◌∷◌, map}
use lib.ListN.{length}
use Rattle.rules.specs.steps.Codes.{plain_sheet}
use Rattle.text.specs.Bytes.{written, spelled, in_turn}
use Rattle.manual.specs.Page.{margin_text, row_text, head_text, codes_page, page_bytes}
use Rattle.manual.specs.Listing.{borders}

-- The row of each code is the one written out.
pub borders_shown : map (λ r. row_text r.code (plain_sheet r.code)) borders ≡ map (λ r. written (r.line ∷ [])) borders
unfolding borders written spelled margin_text plain_sheet
borders_shown = refl

-- The page of the plain sheet is as long as the room that is made for it.
pub page_long : length (codes_page plain_sheet) ≡ page_bytes
unfolding head_text written in_turn spelled margin_text plain_sheet
page_long = refl
