use Rattle.seal.proofs.Streams.{streamed}
use Rattle.seal.proofs.cipher.stream.Goals as goal

pub returns : goal.returns
returns c =
    streamed c.args.key.now.0 c.args.nonce.now.0 c.args.counter c.args.text.now c.apply.new.text (c.counts.ensures.0 c.if-not-counts.false) c.apply.ensures
