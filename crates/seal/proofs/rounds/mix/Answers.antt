use Rattle.seal.specs.ChaCha20.{line}
use Rattle.seal.proofs.rounds.mix.Goals as goal

pub returns : goal.returns
unfolding line
returns c = cc
