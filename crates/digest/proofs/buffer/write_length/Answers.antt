-- The length ends the block.
use Rattle.std.proofs.Common.{arith}
use Rattle.digest.specs.Sha256.{length_bytes}
use Rattle.digest.proofs.Buffers.{length-written}
use Rattle.digest.proofs.buffer.write_length.Goals as goal

pub returns : goal.returns
unfolding length_bytes
returns c = length-written c.args.block.now c.to_be_bytes.result _ c.args.bits (omega arith) c.to_be_bytes.ensures c.put.ensures
