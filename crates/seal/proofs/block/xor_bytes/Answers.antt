use Rattle.std.proofs.Common.{◌∙◌, arith}
use lib.Bits.{bit_xor}
use Rattle.seal.proofs.Zips.{zip_none, zip_more, zip_all}
use Rattle.seal.proofs.block.xor_bytes.Goals as goal

pub loop-i-init : goal.loop-i-init
loop-i-init c = zip_none bit_xor c.args.text.now c.args.pad.now

pub loop-i-preserved : goal.loop-i-preserved
loop-i-preserved c = zip_more bit_xor c.args.text.now c.args.pad.now c.loop-i.text c.loop-i.i (omega arith) (omega arith) c.loop-i.invariant

pub returns : goal.returns
returns c = c.loop-i.invariant ∙ zip_all bit_xor c.args.text.now c.args.pad.now c.loop-i.i (omega arith)
