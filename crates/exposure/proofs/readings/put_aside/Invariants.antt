use Rattle.std.proofs.Common.{◌≡◌, true, map, take}
use Rattle.ratchet.specs.declared.types.Mark.{Mark}
use Rattle.ratchet.specs.State.{state_of, has}
use Rattle.exposure.specs.Sets.{Aside}
use Rattle.exposure.proofs.readings.put_aside.Given as goal

abbrev pub invariant-loop-side : goal.invariant-loop-side
invariant-loop-side l = Aside (map state_of (take l.side-index l.readings)) l.marks.keys × ((m : Mark) → has m l.last ≡ true → has m l.marks.keys ≡ true)
    × ((m : Mark) → has m l.before ≡ true → has m l.marks.keys ≡ true)
