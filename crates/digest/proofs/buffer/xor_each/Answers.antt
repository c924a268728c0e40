-- Each turn takes one byte more exclusive-or the pad.
use Rattle.std.proofs.Common.{refl, arith}
use Rattle.digest.specs.Hmac.{xored}
use Rattle.digest.proofs.Keyed.{xor_all, xor_more}
use Rattle.digest.proofs.buffer.xor_each.Goals as goal

pub loop-byte-init : goal.loop-byte-init
unfolding xored
loop-byte-init c = refl

pub loop-byte-preserved : goal.loop-byte-preserved
loop-byte-preserved c =
    xor_more c.args.bytes.now c.loop-byte.bytes c.args.pad c.loop-byte.byte-index (omega arith) (omega arith) c.loop-byte.invariant

pub returns : goal.returns
returns c = xor_all c.args.bytes.now c.loop-byte.bytes c.args.pad c.loop-byte.byte-index (omega arith) c.loop-byte.invariant
