-- The short choice is the standard's, on 32-bit words.
use Rattle.std.proofs.Common.{sym, arith}
use Rattle.digest.proofs.Short.{choice_short}
use Rattle.digest.proofs.words.choice.Goals as goal

pub returns : goal.returns
returns c = sym (choice_short c.args.x c.args.y c.args.z (omega arith) (omega arith))
