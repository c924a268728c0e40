-- The words so far are written.
use Rattle.std.proofs.Common.{◌≡◌, ◌*◌, take}
use Rattle.digest.specs.Sha256.{bytes}
use Rattle.digest.proofs.block.write_words.Given as goal

abbrev pub invariant-loop-i : goal.invariant-loop-i
invariant-loop-i l = take (4 * l.i) l.out ≡ bytes (take l.i l.words)
