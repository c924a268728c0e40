-- The law of two boxes of numbers.
use Rattle.keybox.proofs.Named.{agree}
use Rattle.keybox.proofs.numbers.numbers_agree.Goals as goal

pub returns : goal.returns
returns c = agree
