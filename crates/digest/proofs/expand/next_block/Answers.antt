-- The block before, the info and the number, one behind the other.
use Rattle.std.proofs.Common.{[], ◌++◌}
use Rattle.digest.proofs.expand.next_block.Goals as goal

pub returns : goal.returns
returns c = λ k h.
    c.finish.ensures.tag k (c.args.before.now ++ c.args.info.now) (c.update-2.ensures k c.args.before.now (c.update.ensures k [] h))
