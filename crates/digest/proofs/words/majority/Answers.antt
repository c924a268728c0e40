-- The short majority is the standard's, on 32-bit words.
use Rattle.std.proofs.Common.{sym, arith}
use Rattle.digest.proofs.Short.{majority_short}
use Rattle.digest.proofs.words.majority.Goals as goal

pub returns : goal.returns
returns c = sym (majority_short c.args.x c.args.y c.args.z (omega arith) (omega arith) (omega arith))
