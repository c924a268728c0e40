-- Numbers as scripts write them: decimal digits, at most 4,294,967,295.
-- Assumes nothing.
use Rattle.std.specs.Prelude.{ℕ, ◌+◌, ◌-◌, ◌*◌, ◌^◌, cond, ◌&&◌, List, [], ◌∷◌, Some, None, fold, Option, nat_le, nat_lt}

abbrev pub small : ℕ → Option ℕ
small n = cond (nat_lt n (2 ^ 32)) (Some n) None

-- a number with one more digit behind it; 48 is 0
abbrev pub digit_after : Option ℕ → ℕ → Option ℕ
digit_after None b = None
digit_after (Some n) b = cond (nat_le 48 b && nat_le b 57) (small (n * 10 + (b - 48))) None

abbrev pub number_of : List ℕ → Option ℕ
number_of [] = None
number_of (b ∷ bs) = fold digit_after (Some 0) (b ∷ bs)
