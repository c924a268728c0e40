use Rattle.std.proofs.Common.{◌≡◌, ◌-◌}
use lib.Seq.{paste}
use Rattle.ratchet.specs.State.{places}
use Rattle.ratchet.proofs.slots.put.Given as goal

abbrev pub invariant-loop-i : goal.invariant-loop-i
invariant-loop-i l = l.slots ≡ paste l.initial.slots l.at (places l.link l.from (l.upto - l.from)) l.i
