-- The four bytes that stand there.
use Rattle.std.proofs.Common.{◌*◌, add-zero, arith}
use Rattle.octets.proofs.Places.{part-place}
use Rattle.digest.specs.Sha256.{word}
use Rattle.digest.proofs.block.word_at.Goals as goal

pub returns : goal.returns
unfolding word
returns c =
    let block = c.args.block.now in
    let at = 4 * c.args.i in
    let none = add-zero at in
    let b0 = part-place block at 4 0 0 (omega arith) in
    let b1 = part-place block at 4 1 0 (omega arith) in
    let b2 = part-place block at 4 2 0 (omega arith) in
    let b3 = part-place block at 4 3 0 (omega arith) in
    cc
