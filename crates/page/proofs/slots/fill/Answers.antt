-- One key after another.
use Rattle.std.proofs.Common.{sym, arith}
use Rattle.page.proofs.Parsed.{keys_none}
use Rattle.page.proofs.Restored.{filled_more}
use Rattle.page.proofs.slots.fill.Goals as goal

pub loop-i-init : goal.loop-i-init
loop-i-init c = sym (keys_none c.args.entries.now)

pub loop-i-preserved : goal.loop-i-preserved
loop-i-preserved c = filled_more c.loop-i.slots c.args.entries.now _ c.loop-i.i (omega arith) c.part_at-slot.ensures c.loop-i.invariant
