-- What is written of a file is the text of the bytes that there were: a text that was put into a buffer with room for it stands in front.
use Rattle.std.proofs.Common.{◌≡◌, ℕ, ◌≤◌, List, [], ◌∷◌, length, take}
use Rattle.std.proofs.Common.{refl, ap, ◌∙◌, subst, arith, Option, None, Some, IfSome}
use Rattle.std.specs.Io.KnownBytes.{Appends}
use Rattle.text.specs.Lies.{over}

-- A text that lies over a buffer with room for it stands in front of it.
front_of_over : (text space : List ℕ) → length text ≤ length space → take (length text) (over text space) ≡ text
unfolding over
front_of_over [] space room = refl
front_of_over (byte ∷ text) [] room = absurd (omega (arith, room))
front_of_over (byte ∷ text) (was ∷ space) room = ap (byte ∷◌) (front_of_over text space (omega (arith, room)))

-- So it is with a text that was put into a buffer.
pub text_in_front : (text space buffer : List ℕ) (long most : ℕ) → long ≡ length text → buffer ≡ over text space
    → long ≤ most → most ≡ length space → take long buffer ≡ text
text_in_front text space buffer long most is lies fits room =
    ap (λ n. take n buffer) is ∙ ap (take (length text)) lies ∙ front_of_over text space (omega (arith, is, fits, room))

-- What was written of a file that was read, is written of all bytes that there were, where its front tells what comes of them.
pub written_of_read : (input before after : Option (List ℕ)) (text : List ℕ → List ℕ) (file out : List ℕ) (room most : ℕ)
    → ((bytes : List ℕ) → text (take most bytes) ≡ text bytes)
    → IfSome input (λ bytes. file ≡ take room bytes) → room ≡ most → out ≡ text file → Appends before after out
    → IfSome input (λ bytes. Appends before after (text bytes))
written_of_read None before after text file out room most front read same is written = tt
written_of_read (Some bytes) before after text file out room most front read same is written =
    let told : out ≡ text bytes = is ∙ ap text (read ∙ ap (λ n. take n bytes) same) ∙ front bytes in
    subst (Appends before after) told written
