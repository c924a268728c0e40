-- What stands at a place of a part.
use Rattle.std.proofs.Common.{◌≡◌, ℕ, ◌+◌, ◌<◌, List, get_or, take, drop, ◌∙◌}
use Rattle.std.proofs.lemmas.List.{get_or-take, get_or-drop}

pub part-place : {X : Type 0} (xs : List X) (at n i : ℕ) (d : X) → i < n → get_or (take n (drop at xs)) i d ≡ get_or xs (at + i) d
part-place xs at n i d h = get_or-take n (drop at xs) i d h ∙ get_or-drop at xs i d
