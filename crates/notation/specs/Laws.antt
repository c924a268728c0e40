-- What is written is read back.
-- Assumes nothing.
use Rattle.std.specs.Prelude.{◌≡◌, ℕ, ◌^◌, ◌<◌, List, Some, decimal}
use Rattle.std.specs.List.{AllByRecursion}
use Rattle.notation.specs.Escapes.{escaped, unescaped}
use Rattle.notation.specs.Decimals.{number_of}

-- every text of bytes, as output writes it, is read back as that text
abbrev pub TextsReadBack : Type 0
TextsReadBack = (text : List ℕ) → AllByRecursion (λ b. b < 256) text → unescaped (escaped text) ≡ Some text

-- and so is every number of 32 bits
abbrev pub NumbersReadBack : Type 0
NumbersReadBack = (n : ℕ) → n < 2 ^ 32 → number_of (decimal n) ≡ Some n
