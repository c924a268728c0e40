use Rattle.std.proofs.Common.{◌≡◌, ◌++◌, map, take, vec_items}
use Rattle.ratchet.specs.State.{state_of}
use Rattle.exposure.specs.Rows.{rows_of}
use Rattle.exposure.proofs.rows.put_rows.Given as goal

abbrev pub invariant-loop-i : goal.invariant-loop-i
invariant-loop-i l = vec_items l.out ≡ vec_items l.initial.out ++ rows_of (map state_of l.readings) (take l.i l.marks)
