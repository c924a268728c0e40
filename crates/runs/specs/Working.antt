-- Whether a secret can be worked out from some others, as a computation.
-- Assumes nothing.
use Rattle.std.specs.Prelude.{suc, Bool, true, false, ◌&&◌, ◌||◌, List, [], ◌∷◌}
use Rattle.std.proofs.Math.Decide.{ℕ_discrete}
use Rattle.chain.specs.Secret.{Secret, Secret-discrete, shared, own, joint, mix, root, chain, next, key}

-- have two secrets the same recipe
unfoldable pub same_secret : Secret → Secret → Bool
same_secret a b = elim (Secret-discrete ℕ_discrete a b) [ yes e ↦ true | no n ↦ false ]

-- is a secret in a stock
unfoldable pub in_stock : Secret → List Secret → Bool
in_stock s [] = false
in_stock s (x ∷ xs) = same_secret x s || in_stock s xs

-- it is in the stock, or all that it is made of can be worked out
unfoldable pub works_out : List Secret → Secret → Bool
works_out st shared = in_stock shared st
works_out st (own n) = in_stock (own n) st
works_out st (joint n) = in_stock (joint n) st || (in_stock (own n) st || in_stock (own (suc n)) st)
works_out st (mix r j) = in_stock (mix r j) st || (works_out st r && works_out st j)
works_out st (root x) = in_stock (root x) st || works_out st x
works_out st (chain x) = in_stock (chain x) st || works_out st x
works_out st (next c) = in_stock (next c) st || works_out st c
works_out st (key c) = in_stock (key c) st || works_out st c
