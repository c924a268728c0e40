-- The first values are the standard's.
use Rattle.std.proofs.Common.{refl}
use Rattle.digest.specs.Sha256.{initial}
use Rattle.digest.proofs.words.first_values.Goals as goal

pub returns : goal.returns
unfolding initial
returns c = refl
