use Rattle.std.proofs.Common.{◌≡◌, ◌++◌, take, drop}
use lib.Bits.{bit_xor}
use lib.Lanes.{zip2}
use Rattle.seal.proofs.block.xor_bytes.Given as goal

abbrev pub invariant-loop-i : goal.invariant-loop-i
invariant-loop-i l = l.text ≡ zip2 bit_xor (take l.i l.initial.text) l.pad ++ drop l.i l.initial.text
