-- The places so far are written, and behind them stands what was there.
use Rattle.std.proofs.Common.{◌≡◌, ◌++◌, replicate, drop}
use Rattle.octets.proofs.wiping.wipe.Given as goal

abbrev pub invariant-loop-item : goal.invariant-loop-item
invariant-loop-item g l = l.items ≡ replicate l.item-index l.blank ++ drop l.item-index l.initial.items
