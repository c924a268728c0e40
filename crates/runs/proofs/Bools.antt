-- Small laws of `or` and `and`, and of whether some side was read.
use Rattle.std.proofs.Common.{◌≡◌, ℕ, suc, Bool, true, false, ◌&&◌, ◌||◌, eqb, leb, List, [], ◌∷◌, refl, arith}
use Rattle.std.proofs.lemmas.Bool.{or_from}
use Rattle.std.proofs.lemmas.Bool.Decides.{nat_tests}
use Rattle.ratchet.specs.State.{State}
use Rattle.runs.specs.Rule.{any_read}

pub or_false : (a : Bool) → (a || false) ≡ a
or_false true = refl
or_false false = refl

pub or_assoc : (a b c : Bool) → ((a || b) || c) ≡ (a || (b || c))
or_assoc true b c = refl
or_assoc false b c = refl

pub or_comm : (a b : Bool) → (a || b) ≡ (b || a)
or_comm true true = refl
or_comm true false = refl
or_comm false true = refl
or_comm false false = refl

-- (a || b) || (c || d), the middle two exchanged
pub or_middle : (a b c d : Bool) → ((a || b) || (c || d)) ≡ ((a || c) || (b || d))
or_middle true b c d = refl
or_middle false true true d = refl
or_middle false true false d = refl
or_middle false false c d = refl

pub and_or : (a b c : Bool) → ((a && b) || (a && c)) ≡ (a && (b || c))
and_or true b c = refl
and_or false b c = refl

-- ### At most: one more, or none

pub upto_none : (k : ℕ) → eqb k 0 ≡ leb k 0
upto_none k = grind (arith, nat_tests)

pub upto_more : (k i : ℕ) → (eqb k (suc i) || leb k i) ≡ leb k (suc i)
upto_more k i = grind (arith, nat_tests)

-- ### Sides read

pub any_same : (p q : State → Bool) → ((s : State) → p s ≡ q s) → (rs : List State) → any_read p rs ≡ any_read q rs
unfolding any_read
any_same p q h [] = refl
any_same p q h (s ∷ rs) = let a = h s in let b = any_same p q h rs in cc

pub any_or : (p q : State → Bool) (rs : List State) → (any_read p rs || any_read q rs) ≡ any_read (λ s. p s || q s) rs
unfolding any_read
any_or p q [] = refl
any_or p q (s ∷ rs) = rw (or_middle (p s) (any_read p rs) (q s) (any_read q rs), any_or p q rs)

pub any_none : (p : State → Bool) → ((s : State) → p s ≡ false) → (rs : List State) → any_read p rs ≡ false
unfolding any_read
any_none p h [] = refl
any_none p h (s ∷ rs) = or_from (p s) (any_read p rs) (h s) (any_none p h rs)
