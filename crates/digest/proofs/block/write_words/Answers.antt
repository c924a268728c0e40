-- Each turn writes the four bytes of the next word.
use Rattle.std.proofs.Common.{refl, arith}
use Rattle.digest.specs.Sha256.{bytes, word_bytes}
use Rattle.digest.proofs.Bytes.{write-all, write-more}
use Rattle.digest.proofs.block.write_words.Goals as goal

pub loop-i-init : goal.loop-i-init
unfolding bytes
loop-i-init c = refl

pub loop-i-preserved : goal.loop-i-preserved
unfolding word_bytes
loop-i-preserved c = write-more c.args.words.now c.loop-i.out _ c.to_be_bytes.result c.loop-i.i (omega arith) (omega arith) c.loop-i.invariant c.to_be_bytes.ensures c.put.ensures

pub returns : goal.returns
returns c = write-all c.args.words.now c.loop-i.out c.loop-i.i (omega arith) (omega arith) c.loop-i.invariant
