use Rattle.std.proofs.Common.{add-zero, arith}
use Rattle.octets.proofs.Places.{part-place}
use Rattle.seal.specs.ChaCha20.{word}
use Rattle.seal.proofs.block.load.Goals as goal

pub returns : goal.returns
unfolding word
returns c =
    let bytes = c.args.bytes.now in
    let at = c.args.at in
    let none = add-zero at in
    let b0 = part-place bytes at 4 0 0 (omega arith) in
    let b1 = part-place bytes at 4 1 0 (omega arith) in
    let b2 = part-place bytes at 4 2 0 (omega arith) in
    let b3 = part-place bytes at 4 3 0 (omega arith) in
    cc
