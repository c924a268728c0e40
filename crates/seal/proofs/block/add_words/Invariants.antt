use Rattle.std.proofs.Common.{◌≡◌, ◌++◌, take, drop}
use lib.Lanes.{zip2}
use Rattle.seal.specs.ChaCha20.{plus}
use Rattle.seal.proofs.block.add_words.Given as goal

abbrev pub invariant-loop-i : goal.invariant-loop-i
invariant-loop-i l = l.words ≡ zip2 plus (take l.i l.initial.words) l.others ++ drop l.i l.initial.words
