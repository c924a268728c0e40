-- After each turn the value is that of the places passed.
use Rattle.std.proofs.Common.{◌≡◌}
use Rattle.chain.specs.Bytes.{chain_along}
use Rattle.chain.proofs.links.skip.Given as goal

abbrev pub invariant-loop-place : goal.invariant-loop-place
invariant-loop-place l = l.at.0 ≡ chain_along l._place l.chain.0
