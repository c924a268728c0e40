-- The eight new variables are the standard's.
use Rattle.digest.specs.Sha256.{round, temporary₁, temporary₂}
use Rattle.digest.proofs.block.one_round.Goals as goal

pub returns : goal.returns
unfolding round temporary₁ temporary₂
returns c = cc
