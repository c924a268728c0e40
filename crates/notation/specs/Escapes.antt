-- Texts as scripts and output write them: \xNN stands for one byte.
-- Assumes nothing.
use Rattle.std.specs.Prelude.{ℕ, ◌+◌, ◌-◌, ◌*◌, ◌/◌, ◌%◌, Bool, false, cond, ◌&&◌, ◌||◌, List, [], ◌∷◌, ◌++◌, Some, None, fold, Option, ◌==◌, nat_le, nat_lt}
use Rattle.std.specs.Fmt.{digit_glyph}
use Rattle.std.specs.List.{flat_map}
use Rattle.notation.specs.declared.text.Escape.{Escape}
use Rattle.notation.specs.declared.text.Escape.TheVariants.{Plain, Slash, Hex, Digit, Bad}

-- 0 to 9, a to f
abbrev pub hex_digit : ℕ → ℕ
hex_digit n = digit_glyph false n

-- every byte below 32, 127 and the backslash (92) is written \xNN; x is 120
abbrev pub hidden : ℕ → Bool
hidden b = nat_lt b 32 || (b == 127 || b == 92)

abbrev pub escaped_byte : ℕ → List ℕ
escaped_byte b = cond (hidden b) (92 ∷ 120 ∷ hex_digit (b / 16) ∷ hex_digit (b % 16) ∷ []) (b ∷ [])

abbrev pub escaped : List ℕ → List ℕ
escaped text = flat_map escaped_byte text

-- ### Reading

abbrev pub within : ℕ → ℕ → ℕ → Bool
within low high b = nat_le low b && nat_le b high

-- digits in either case
abbrev pub hex_value : ℕ → Option ℕ
hex_value b =
    cond (within 48 57 b) (Some (b - 48)) (cond (within 97 102 b) (Some (b - 87)) (cond (within 65 70 b) (Some (b - 55)) None))

abbrev pub after_digit : Option ℕ → Escape
after_digit None = Bad
after_digit (Some d) = Digit d

abbrev pub after_last : Option ℕ → Escape
after_last None = Bad
after_last (Some d) = Plain

-- where the reading of an escape stands after one more byte
abbrev pub after : Escape → ℕ → Escape
after Plain b = cond (b == 92) Slash Plain
after Slash b = cond (b == 120) Hex Bad
after Hex b = after_digit (hex_value b)
after (Digit h) b = after_last (hex_value b)
after Bad b = Bad

abbrev pub last_digit : ℕ → Option ℕ → List ℕ
last_digit h None = []
last_digit h (Some d) = ((h * 16 + d) % 256) ∷ []

-- what that byte adds to the text
abbrev pub emitted : Escape → ℕ → List ℕ
emitted Plain b = cond (b == 92) [] (b ∷ [])
emitted Slash b = []
emitted Hex b = []
emitted (Digit h) b = last_digit h (hex_value b)
emitted Bad b = []

pub record Scan : Type 0 where
  pub escape : Escape
  pub text : List ℕ

abbrev pub scan : Scan → ℕ → Scan
scan s b = record { escape = after s.escape b; text = s.text ++ emitted s.escape b }

abbrev pub scanned : List ℕ → Scan
scanned raw = fold scan (record { escape = Plain; text = [] }) raw

-- a text as a script writes it, read: the text, or none where an escape is bad or cut short
abbrev pub ended : Escape → List ℕ → Option (List ℕ)
ended Plain t = Some t
ended Slash t = None
ended Hex t = None
ended (Digit h) t = None
ended Bad t = None

abbrev pub unescaped : List ℕ → Option (List ℕ)
unescaped raw = ended (scanned raw).escape (scanned raw).text
