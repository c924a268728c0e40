-- The fifteen words that stay and the next one are the window, moved on.
use Rattle.std.proofs.Common.{arith}
use Rattle.digest.proofs.Schedule.{slid}
use Rattle.digest.proofs.block.slide.Goals as goal

pub returns : goal.returns
returns c = slid c.args.w _ (omega arith) c.following-next.ensures
