-- Two rotations, the second from the first, make the standard's two.
use Rattle.std.proofs.Common.{ℕ, ◌/◌, ◌^◌, refl, ap, arith}
use lib.Bits.{bit_xor}
use Rattle.digest.proofs.Rotations.{two-rotations}
use Rattle.digest.proofs.words.small_sigma1.Goals as goal

pub returns : goal.returns
returns c =
    ap (λ (y : ℕ). bit_xor y (c.args.x / 2 ^ 10))
    (two-rotations 17 2 13 c.args.x _ _ refl (omega arith) c.rotate_right.ensures c.rotate_right-2.ensures)
