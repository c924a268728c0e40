-- Searches through the sides that were read.
use Rattle.std.proofs.Common.{◌≡◌, Bool, ◌||◌, List, [], ◌∷◌, map, refl, ap}
use Rattle.std.specs.List.{list_any}
use Rattle.ratchet.specs.declared.sides.Side.{Side}
use Rattle.ratchet.specs.State.{State, state_of}
use Rattle.runs.specs.Rule.{any_read}

pub any-read : (p : State → Bool) (xs : List Side) → list_any (λ x. p (state_of x)) xs ≡ any_read p (map state_of xs)
unfolding any_read
any-read p [] = refl
any-read p (x ∷ xs) = ap (λ (b : Bool). p (state_of x) || b) (any-read p xs)
