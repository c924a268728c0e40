-- After each turn the value and the keys are those of the places passed.
use Rattle.std.proofs.Common.{◌≡◌, take}
use Rattle.chain.specs.Bytes.{chain_along, keys_along}
use Rattle.chain.proofs.links.walk.Given as goal

abbrev pub invariant-loop-slot : goal.invariant-loop-slot
invariant-loop-slot l = (l.at.0 ≡ chain_along l.slot-index l.chain.0) × (take l.slot-index l.keys ≡ keys_along l.slot-index l.chain.0)
