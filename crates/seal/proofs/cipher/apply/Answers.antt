use Rattle.std.proofs.Common.{◌≡◌, ◌+◌, ◌*◌, min, length, ◌∙◌, arith}
use Rattle.seal.proofs.Streams.{under-way_none, under_way_more, under-way_all}
use Rattle.seal.proofs.cipher.apply.Goals as goal

pub loop-i-init : goal.loop-i-init
loop-i-init c =
    under-way_none c.args.key.now.0 c.args.nonce.now.0 c.args.counter c.args.text.now _ c.ranges.counter.fits c.new-stream.ensures

pub loop-i-preserved : goal.loop-i-preserved
loop-i-preserved c =
    let end : c.min-to.result ≡ min (64 * c.loop-i.i + 64) (length c.args.text.now) = omega arith in
    under_way_more c.args.key.now.0 c.args.nonce.now.0 c.args.counter c.args.text.now c.loop-i.text c.loop-i.stream.state c.apply.new.text c.loop-i.i c.min-to.result c.apply.new.self.state (omega arith) end (omega arith) c.loop-i.invariant c.apply.ensures.text c.apply.ensures.state

pub returns : goal.returns
returns c =
    c.work_into_first.ensures
    ∙ under-way_all c.args.key.now.0 c.args.nonce.now.0 c.args.counter c.args.text.now c.loop-i.text c.loop-i.stream.state c.loop-i.i (omega arith) c.loop-i.invariant
