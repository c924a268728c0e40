use Rattle.std.proofs.Common.{◌≡◌, ◌*◌, ◌++◌, take, drop}
use Rattle.std.specs.List.{flat_map}
use Rattle.seal.specs.ChaCha20.{bytes_of}
use Rattle.seal.proofs.block.serialize.Given as goal

abbrev pub invariant-loop-i : goal.invariant-loop-i
invariant-loop-i l = l.bytes ≡ flat_map bytes_of (take l.i l.words) ++ drop (4 * l.i) l.initial.bytes
