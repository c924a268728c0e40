-- The version and the counts, one behind another.
use Rattle.ratchet.specs.State.{state_of}
use Rattle.page.proofs.Puts.{counts-put}
use Rattle.page.proofs.putting.put_counts.Goals as goal

pub returns : goal.returns
returns c =
    counts-put (state_of c.args.side.now) c.args.out.now _ _ _ _ _ _ _ _ _
    c.to_be_bytes.ensures c.to_be_bytes-2.ensures c.to_be_bytes-3.ensures c.to_be_bytes-4.ensures
    c.put.ensures c.put-2.ensures c.put-3.ensures c.put-4.ensures c.put-5.ensures
