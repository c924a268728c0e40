-- The sum of four words is the standard's.
use Rattle.digest.specs.Sha256.{next_word}
use Rattle.digest.proofs.block.following.Goals as goal

pub returns : goal.returns
unfolding next_word
returns c = cc
