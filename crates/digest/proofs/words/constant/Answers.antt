-- The table is the standard's.
use Rattle.std.proofs.Common.{refl}
use Rattle.digest.specs.Sha256.{constants}
use Rattle.digest.proofs.words.constant.Goals as goal

pub returns : goal.returns
unfolding constants
returns c = refl
