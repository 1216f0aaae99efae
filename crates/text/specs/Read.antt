-- What a reader answers: what it read, and what is behind it. `text v` is the text of v, `Fits v` says which are read, `Ends rest` what
-- may follow.
use Rattle.std.specs.Prelude.{◌≡◌, Option, Some, None, option_map, List, ◌++◌, ℕ, ◌≤◌, ◌<◌, ◌^◌}
use Rattle.std.specs.Borrow.{Bor}
use Rattle.text.specs.Text.{decimal_text, word_text, byte_text, glyphs, NoDigit}

-- an answer, with the text that its slice shows
abbrev pub seen : {A : Type 0} → Option (A × Bor (List ℕ)) → Option (A × List ℕ)
seen r = option_map (λ p. (p.0, p.1.now)) r

module _ {A : Type 0} (text : A → List ℕ) (Fits : A → Type 0) (Ends : List ℕ → Type 0) where
  -- the line begins with the text of v, and `rest` is behind it
  pub record Got (line : List ℕ) (v : A) (rest : List ℕ) : Type 0 where
    pub whole : line ≡ text v ++ rest
    pub fits : Fits v
    pub ends : Ends rest

  -- what is answered stands there, and whatever stands there is answered: None says that nothing does
  pub record ReadAs (line : List ℕ) (r : Option (A × List ℕ)) : Type 0 where
    pub yes : (v : A) (rest : List ℕ) → r ≡ Some (v, rest) → Got line v rest
    pub only : (v : A) (rest : List ℕ) → Got line v rest → r ≡ Some (v, rest)

-- what follows is free
abbrev pub Any : List ℕ → Type 0
Any rest = Unit

-- a decimal of at most `most`
abbrev pub DecimalAs : ℕ → List ℕ → Option (ℕ × List ℕ) → Type 0
DecimalAs most = ReadAs decimal_text (λ v. v ≤ most) NoDigit

-- 8 capital hexadecimal digits
abbrev pub WordAs : List ℕ → Option (ℕ × List ℕ) → Type 0
WordAs = ReadAs word_text (λ v. v < 0x1_0000_0000) Any

-- two capital hexadecimal digits
abbrev pub ByteAs : List ℕ → Option (ℕ × List ℕ) → Type 0
ByteAs = ReadAs byte_text (λ v. v < 256) Any

-- k capital hexadecimal digits
abbrev pub DigitsAs : ℕ → List ℕ → Option (ℕ × List ℕ) → Type 0
DigitsAs k = ReadAs (glyphs k) (λ v. v < 16 ^ k) Any

-- one byte as a digit: the number below b whose byte it is
pub record ValueAs (b : ℕ) (byte : ℕ → ℕ) (x : ℕ) (r : Option ℕ) : Type 0 where
  pub yes : (d : ℕ) → r ≡ Some d → (d < b) × (x ≡ byte d)
  pub no : r ≡ None → (d : ℕ) → d < b → x ≡ byte d → ⊥
