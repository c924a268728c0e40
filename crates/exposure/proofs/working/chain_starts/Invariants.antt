use Rattle.std.proofs.Common.{◌≡◌, map, vec_items, vec_len}
use Rattle.ratchet.specs.State.{state_of}
use Rattle.chain.specs.Secret.{own, root_of}
use Rattle.runs.specs.Stock.{stocks}
use Rattle.runs.specs.Working.{in_stock}
use Rattle.exposure.specs.Chains.{Starts}
use Rattle.exposure.proofs.Starting.{below_known}
use Rattle.exposure.proofs.working.chain_starts.Given as goal

abbrev pub invariant-loop-n : goal.invariant-loop-n
invariant-loop-n l =
    (vec_len l.starts ≡ l.n) × Starts (map state_of l.readings) (vec_items l.starts)
    × (l.half ≡ in_stock (own l.n) (stocks (map state_of l.readings))) × (l.half ≡ in_stock (root_of l.n) (stocks (map state_of l.readings)))
    × (l.below ≡ below_known (map state_of l.readings) l.n)
