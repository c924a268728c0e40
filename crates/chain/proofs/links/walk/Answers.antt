-- One turn is one place on, and one key more.
use Rattle.std.proofs.Common.{arith}
use Rattle.chain.proofs.Along.{chain-none, chain_more, keys_none, keys-more, walked}
use Rattle.chain.proofs.links.walk.Goals as goal

pub loop-slot-init : goal.loop-slot-init
loop-slot-init c = (chain-none c.args.chain.now.0, keys_none c.args.chain.now.0)

pub loop-slot-preserved : goal.loop-slot-preserved
loop-slot-preserved c = (
  chain_more c.loop-slot.slot-index c.args.chain.now.0 c.loop-slot.at.0 _ c.loop-slot.invariant.0 c.advance.ensures.next_is,
  keys-more c.loop-slot.slot-index c.args.chain.now.0 c.loop-slot.at.0 c.loop-slot.keys c.advance.result.0 (omega arith) c.loop-slot.invariant.0 c.loop-slot.invariant.1 c.advance.ensures.key_is,
)

pub returns : goal.returns
returns c =
    walked c.loop-slot.slot-index _ c.args.chain.now.0 c.loop-slot.keys c.loop-slot.at.0 (omega arith) c.loop-slot.auto.keys c.loop-slot.invariant.0 c.loop-slot.invariant.1
