-- Three rotations, each from the one before it, make the standard's three.
use Rattle.std.proofs.Common.{refl, arith}
use Rattle.digest.proofs.Rotations.{three_rotations}
use Rattle.digest.proofs.words.big_sigma0.Goals as goal

pub returns : goal.returns
returns c =
    three_rotations 2 11 9 10 c.args.x _ _ _ refl (omega arith) c.rotate_right.ensures c.rotate_right-2.ensures c.rotate_right-3.ensures
