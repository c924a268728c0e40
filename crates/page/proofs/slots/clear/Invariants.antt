use Rattle.std.proofs.Common.{◌≡◌, take, replicate}
use Rattle.exchange.specs.Held.{blank}
use Rattle.page.proofs.slots.clear.Given as goal

abbrev pub invariant-loop-slot : goal.invariant-loop-slot
invariant-loop-slot l = take l.slot-index l.slots ≡ replicate l.slot-index (record { 0 = blank })
