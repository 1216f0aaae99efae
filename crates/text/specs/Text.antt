-- Numbers as text, in ASCII bytes. A reader takes a text for a number exactly when it is that number's text here.
use Rattle.std.specs.Prelude.{◌≡◌, cond, List, [], ◌∷◌, ◌++◌, ℕ, zero, suc, ◌+◌, ◌/◌, ◌%◌, ◌<◌, ltb}

-- the byte of a decimal digit
abbrev pub figure : ℕ → ℕ
figure d = 48 + d

-- the byte of a hexadecimal digit: `0` to `9`, then `A` to `F`
abbrev pub glyph : ℕ → ℕ
glyph d = cond (ltb d 10) (48 + d) (55 + d)

-- n in decimal; the first number bounds how often it is divided
abbrev pub figures : ℕ → ℕ → List ℕ
figures zero n = figure n ∷ []
figures (suc k) n = cond (ltb n 10) (figure n ∷ []) (figures k (n / 10) ++ (figure (n % 10) ∷ []))

-- a decimal: no leading zero, and 0 is `0`
unfoldable pub decimal_text : ℕ → List ℕ
decimal_text n = figures n n

-- the last k hexadecimal digits of n, the most significant first
abbrev pub glyphs : ℕ → ℕ → List ℕ
glyphs zero n = []
glyphs (suc k) n = glyphs k (n / 16) ++ (glyph (n % 16) ∷ [])

-- a number below 2^32 as 8 capital hexadecimal digits
unfoldable pub word_text : ℕ → List ℕ
word_text n = glyphs 8 n

-- a number below 256 as 2 capital hexadecimal digits
unfoldable pub byte_text : ℕ → List ℕ
byte_text n = glyphs 2 n

-- the text begins with no digit: digits are the bytes `byte d` of the numbers d below b
abbrev pub NoneFirst : ℕ → (ℕ → ℕ) → List ℕ → Type 0
NoneFirst b byte text = (d : ℕ) (rest : List ℕ) → d < b → text ≡ byte d ∷ rest → ⊥

-- what may follow a decimal
abbrev pub NoDigit : List ℕ → Type 0
NoDigit = NoneFirst 10 figure
