use Rattle.std.proofs.Common.{◌∙◌, arith}
use Rattle.seal.specs.ChaCha20.{plus}
use Rattle.seal.proofs.Zips.{zip_none, zip_more, zip_all}
use Rattle.seal.proofs.block.add_words.Goals as goal

pub loop-i-init : goal.loop-i-init
loop-i-init c = zip_none plus c.args.words.now c.args.others.now

pub loop-i-preserved : goal.loop-i-preserved
loop-i-preserved c = zip_more plus c.args.words.now c.args.others.now c.loop-i.words c.loop-i.i (omega arith) (omega arith) c.loop-i.invariant

pub returns : goal.returns
returns c = c.loop-i.invariant ∙ zip_all plus c.args.words.now c.args.others.now c.loop-i.i (omega arith)
