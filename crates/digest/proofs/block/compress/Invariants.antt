-- As many rounds are done as the turns have taken.
use Rattle.std.proofs.Common.{◌*◌}
use Rattle.digest.specs.Sha256.{parsed}
use Rattle.digest.specs.Work.{Stands}
use Rattle.digest.proofs.block.compress.Given as goal

abbrev pub invariant-loop-q : goal.invariant-loop-q
invariant-loop-q l = Stands l.initial.x.vars (parsed l.block 16) (16 * l.q) l.x
