-- What is printed of each message: whether its key lies open by the rule, and whether it can be worked out; 10 ends a line.
-- Assumes nothing.
use Rattle.std.specs.Prelude.{◌≡◌, ℕ, suc, Bool, cond, List, [], ◌∷◌, ◌++◌, codes, decimal, Decides}
use Rattle.ratchet.specs.declared.types.Mark.{Mark}
use Rattle.ratchet.specs.State.{State}
use Rattle.runs.specs.Laws.{Laws, readings}
use Rattle.runs.specs.Rule.{exposed}
use Rattle.chain.specs.Secret.{Knows}
use Rattle.runs.specs.Stock.{key_of, stocks}
use Rattle.runs.specs.Working.{works_out}
use Rattle.runs.specs.World.{Event}

-- THE THEOREM above all rows: after every run that has these readings the laws hold, and for every message the two words agree,
-- since each of them says whether the key can be worked out
pub record Agree (rs : List State) : Type 0 where
  pub laws : (es : List Event) → readings es ≡ rs → Laws es
  pub same : (m : Mark) → exposed rs m.link m.place ≡ works_out (stocks rs) (key_of m)
  pub by_rule : (m : Mark) → Decides (exposed rs m.link m.place) (Knows (stocks rs) (key_of m))
  pub by_work : (m : Mark) → Decides (works_out (stocks rs) (key_of m)) (Knows (stocks rs) (key_of m))

abbrev pub open_word : Bool → List ℕ
open_word b = cond b (codes "open") (codes "shut")

abbrev pub known_word : Bool → List ℕ
known_word b = cond b (codes "known") (codes "unknown")

-- `M L/P open known`, each word by its Bool
abbrev pub row_of : ℕ → Mark → Bool → Bool → List ℕ
row_of n m open? known? =
    decimal n ++ (codes " " ++ (decimal m.link ++ (codes "/" ++ (decimal m.place ++ (codes " " ++ (open_word open? ++ (codes " " ++ (known_word known? ++ (10 ∷ [])))))))))

-- the row of the n-th message: the first word by the rule, the second by working out
abbrev pub row_by : List State → ℕ → Mark → List ℕ
row_by rs n m = row_of n m (exposed rs m.link m.place) (works_out (stocks rs) (key_of m))

unfoldable pub rows_from : List State → ℕ → List Mark → List ℕ
rows_from rs n [] = []
rows_from rs n (m ∷ ms) = row_by rs n m ++ rows_from rs (suc n) ms

-- messages are numbered from 1
abbrev pub rows_of : List State → List Mark → List ℕ
rows_of rs ms = rows_from rs 1 ms
