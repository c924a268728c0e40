-- One round more, by the step of the window and of the rounds.
use Rattle.std.proofs.Common.{arith}
use Rattle.digest.proofs.Schedule.{stands_more}
use Rattle.digest.proofs.block.turn.Goals as goal

pub returns : goal.returns
returns c = λ h m len st. stands_more m len h c.args.t c.args.x _ (omega arith) st (cc) c.slide-window.ensures
