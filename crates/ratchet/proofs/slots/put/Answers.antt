use Rattle.std.proofs.Common.{◌-◌, arith}
use Rattle.ratchet.proofs.Put.{put_more}
use Rattle.ratchet.proofs.slots.put.Goals as goal

pub loop-i-preserved : goal.loop-i-preserved
loop-i-preserved c =
    let e = c.loop-i.invariant in
    let more = put_more c.args.slots.now c.args.at c.args.link c.args.from (c.args.upto - c.args.from) c.loop-i.i (omega arith) (omega arith) in
    cc
