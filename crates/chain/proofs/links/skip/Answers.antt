-- One digest is one place on.
use Rattle.std.proofs.Common.{arith}
use Rattle.chain.proofs.Along.{chain-none, chain_more, skipped}
use Rattle.chain.proofs.links.skip.Goals as goal

pub loop-place-init : goal.loop-place-init
loop-place-init c = chain-none c.args.chain.now.0

pub loop-place-preserved : goal.loop-place-preserved
loop-place-preserved c = chain_more c.loop-place._place c.args.chain.now.0 c.loop-place.at.0 _ c.loop-place.invariant c.hmac-next.ensures

pub returns : goal.returns
returns c = skipped c.loop-place._place c.args.places c.args.chain.now.0 c.loop-place.at.0 (omega arith) c.loop-place.invariant
