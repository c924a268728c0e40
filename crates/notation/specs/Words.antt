-- Words of a line of bytes.
-- Assumes nothing.
use Rattle.std.specs.Prelude.{ℕ, Bool, not, ◌||◌, List, length, take, ◌==◌}
use Rattle.std.specs.List.{list_any, position_or_len}
use Rattle.std.specs.Str.{bytes_eq}

abbrev pub same : List ℕ → List ℕ → Bool
same line word = bytes_eq line word

abbrev pub starts : List ℕ → List ℕ → Bool
starts line word = same (take (length word) line) word

-- the place of the first space (32), or the length
abbrev pub space_at : List ℕ → ℕ
space_at line = position_or_len (λ b. b == 32) line

-- neither a space nor a tab (9) nor a carriage return (13)
abbrev pub visible : ℕ → Bool
visible b = not (b == 32 || (b == 9 || b == 13))

-- is there a visible byte
abbrev pub solid : List ℕ → Bool
solid line = list_any visible line
