use Rattle.seal.proofs.Streams.{UnderWay}
use Rattle.seal.proofs.cipher.apply.Given as goal

abbrev pub invariant-loop-i : goal.invariant-loop-i
invariant-loop-i l = UnderWay l.key.0 l.nonce.0 l.counter l.initial.text l.text l.stream.state l.i
