-- Texts as bytes: letters in ASCII, lines, numbers in decimal, and texts one after another.
use Rattle.std.specs.Prelude.{ℕ, zero, suc, ◌+◌, ◌/◌, ◌%◌, List, [], ◌∷◌, ◌++◌, ltb, if◌then◌else◌}
use Prim.Native.Char.{code}
use Prim.Native.String.{String, [] as empty, ◌∷◌ as ◌before◌}

-- The bytes of a text, a letter each.
abbrev pub ascii : String → List ℕ
ascii empty = []
ascii (letter before letters) = code letter ∷ ascii letters

-- The end of a line.
abbrev pub newline : List ℕ
newline = 10 ∷ []

-- Lines of letters, each with its end.
unfoldable pub written : List String → List ℕ
written [] = []
written (line ∷ lines) = ascii line ++ newline ++ written lines

-- The byte of a digit.
abbrev pub digit : ℕ → List ℕ
digit d = (48 + d) ∷ []

-- A number in decimal, its last digit behind those of a tenth of it, as long as turns are left.
unfoldable pub spelled : ℕ → ℕ → List ℕ
spelled zero n = digit n
spelled (suc turns) n = if ltb n 10 then (digit n) else (spelled turns (n / 10) ++ digit (n % 10))

-- A number in decimal, with no zero in front: it has no more digits than it counts, so the turns are enough.
abbrev pub decimal : ℕ → List ℕ
decimal n = spelled n n

-- The texts of the first so many, one after another.
unfoldable pub in_turn : ℕ → (ℕ → List ℕ) → List ℕ
in_turn zero text = []
in_turn (suc k) text = in_turn k text ++ text k
