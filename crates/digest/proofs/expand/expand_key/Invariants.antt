-- The blocks so far are written, and the last of them is at hand.
use Rattle.std.proofs.Common.{◌≡◌, ◌*◌, min, length, take}
use Rattle.digest.specs.Hkdf.{hkdf_t, joined}
use Rattle.digest.proofs.expand.expand_key.Given as goal

abbrev pub invariant-loop-i : goal.invariant-loop-i
invariant-loop-i l =
    (take (32 * l.i) l.out ≡ take (length l.initial.out) (joined l.key l.info l.i))
    × (take (min (32 * l.i) 32) l.block ≡ hkdf_t l.key l.info l.i)
    × (length l.block ≡ 32)
