-- Lists of marks as sets.
-- Assumes nothing.
use Rattle.std.specs.Prelude.{◌≡◌, ◌||◌, List}
use Rattle.ratchet.specs.declared.types.Mark.{Mark}
use Rattle.ratchet.specs.State.{State, has}
use Rattle.runs.specs.Rule.{any_read}
use Rattle.runs.specs.Stock.{key_of, stocks}
use Rattle.runs.specs.Working.{in_stock}

-- the last has what the first two have, and nothing else
abbrev pub Adds : List Mark → List Mark → List Mark → Type 0
Adds xs ys zs = (m : Mark) → has m zs ≡ (has m xs || has m ys)

-- the marks of the keys that some side that was read had put aside
abbrev pub Aside : List State → List Mark → Type 0
Aside rs xs = (m : Mark) → has m xs ≡ any_read (λ s. has m s.skipped) rs

-- the marks of the keys that are in the stock of the sides that were read
abbrev pub Held : List State → List Mark → Type 0
Held rs xs = (m : Mark) → has m xs ≡ in_stock (key_of m) (stocks rs)
