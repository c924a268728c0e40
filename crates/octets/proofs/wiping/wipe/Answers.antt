-- Each turn writes one place more.
use Rattle.std.proofs.Common.{◌≡◌, ℕ, zero, suc, ◌<◌, List, [], ◌∷◌, ◌++◌, length, drop, set, replicate, refl, ap, ◌∙◌, add-one, arith}
use Rattle.octets.proofs.wiping.wipe.Goals as goal

written-more : {X : Type 0} (y : X) (xs : List X) (i : ℕ) → i < length xs → set (replicate i y ++ drop i xs) i y ≡ replicate (suc i) y ++ drop (suc i) xs
written-more y [] i h = elim h [ ]
written-more y (x ∷ xs) zero h = refl
written-more {X} y (x ∷ xs) (suc i) h = ap (λ (zs : List X). y ∷ zs) (written-more y xs i (omega arith))

pub loop-item-preserved : goal.loop-item-preserved
loop-item-preserved g c =
    let more = written-more c.args.blank c.args.items.now c.loop-item.item-index c.loop-item-test.true in
    rw add-one (ap (λ xs. set xs c.loop-item.item-index c.args.blank) c.loop-item.invariant ∙ more)
