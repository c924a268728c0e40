-- What a side keeps, as plain numbers and a list.
-- Assumes nothing.
use Rattle.std.specs.Prelude.{ℕ, zero, suc, ◌+◌, Bool, false, cond, ◌||◌, List, [], ◌∷◌, take}
use Rattle.ratchet.specs.declared.types.Mark.{Mark}
use Rattle.ratchet.specs.declared.sides.Side.{Side}
use Rattle.ratchet.specs.Same.{same_mark}

-- drawn: the number of its last key; sent: how many it has sent on its link; taken: the next place of the link that it takes on;
-- before: how many it had sent on its link before; skipped: the marks of the keys put aside, in order of link and place
pub record State : Type 0 where
  pub drawn : ℕ
  pub sent : ℕ
  pub taken : ℕ
  pub before : ℕ
  pub skipped : List Mark

-- a side as the program holds it, seen so
abbrev pub state_of : Side → State
state_of s =
    record { drawn = s.drawn; sent = s.sent; taken = s.taken; before = s.before; skipped = take s.count s.marks }

-- the sides as they begin: the first has drawn key 1, the second key 0
abbrev pub begun : ℕ → State
begun n = record { drawn = n; sent = 0; taken = 0; before = 0; skipped = [] }

-- is a mark among some
unfoldable pub has : Mark → List Mark → Bool
has m [] = false
has m (x ∷ xs) = same_mark x m || has m xs

-- some marks without the first that is the given one
unfoldable pub without : Mark → List Mark → List Mark
without m [] = []
without m (x ∷ xs) = cond (same_mark x m) xs (x ∷ without m xs)

-- the marks of a link from one place on, so many of them
unfoldable pub places : (link from count : ℕ) → List Mark
places l f zero = []
places l f (suc n) = record { link = l; place = f } ∷ places l (f + 1) n
