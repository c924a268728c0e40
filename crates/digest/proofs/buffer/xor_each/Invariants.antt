-- The bytes so far are taken exclusive-or the pad, and behind them stands what was there.
use Rattle.std.proofs.Common.{◌≡◌, ◌++◌, take, drop}
use Rattle.digest.specs.Hmac.{xored}
use Rattle.digest.proofs.buffer.xor_each.Given as goal

abbrev pub invariant-loop-byte : goal.invariant-loop-byte
invariant-loop-byte l = l.bytes ≡ xored l.pad (take l.byte-index l.initial.bytes) ++ drop l.byte-index l.initial.bytes
