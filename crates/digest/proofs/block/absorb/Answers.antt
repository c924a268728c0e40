-- Each turn compresses the next block.
use Rattle.std.proofs.Common.{[], ◌≡◌, ◌*◌, ◌/◌, length, get_or, take, drop, sym, arith}
use Rattle.digest.proofs.Absorbed.{absorbed-none, absorb_more, chunk-at}
use Rattle.digest.proofs.block.absorb.Goals as goal

pub loop-block-init : goal.loop-block-init
loop-block-init c = sym (absorbed-none c.args.value.now c.args.message.now)

pub loop-block-preserved : goal.loop-block-preserved
loop-block-preserved c =
    let message = c.args.message.now in
    let n = c.loop-block.block-index in
    let front = c.as_chunks.ensures.front in
    let at = chunk-at 64 (length message / 64) message n (omega arith) in
    let cut : get_or c.as_chunks.result.0.now n [] ≡ take 64 (drop (64 * n) message) = cc in
    absorb_more c.args.value.now message c.loop-block.value _ _ n c.loop-block.invariant cut c.compress.ensures

pub returns : goal.returns
returns c =
    let message = c.args.message.now in
    let done : c.loop-block.block-index ≡ length message / 64 = omega arith in
    let was = c.loop-block.invariant in
    let place : length message / 64 * 64 ≡ 64 * (length message / 64) = omega arith in
    let back = c.as_chunks.ensures.back in
    record { value = cc; behind = cc }
