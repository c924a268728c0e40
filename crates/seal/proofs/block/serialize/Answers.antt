use Rattle.std.proofs.Common.{refl, arith}
use Rattle.seal.proofs.Serials.{serialize_more, serialize_all}
use Rattle.seal.proofs.block.serialize.Goals as goal

pub loop-i-init : goal.loop-i-init
loop-i-init c = refl

pub loop-i-preserved : goal.loop-i-preserved
loop-i-preserved c =
    serialize_more c.args.words.now c.args.bytes.now c.loop-i.bytes _ c.to_le_bytes.result c.loop-i.i (omega arith) c.loop-i.invariant c.to_le_bytes.ensures c.put.ensures

pub returns : goal.returns
returns c = serialize_all c.args.words.now c.args.bytes.now c.loop-i.bytes c.loop-i.i (omega arith) (omega arith) c.loop-i.invariant
