use Rattle.std.proofs.Common.{take}
use Rattle.exposure.specs.Sets.{Adds}
use Rattle.exposure.proofs.readings.add_all.Given as goal

abbrev pub invariant-loop-mark : goal.invariant-loop-mark
invariant-loop-mark l = Adds l.initial.set.keys (take l.mark-index l.marks) l.set.keys
