-- Sixteen rounds a turn, and the last sixteen behind the loop.
use Rattle.std.proofs.Common.{refl, ap, ◌∙◌, arith}
use Rattle.digest.specs.Sha256.{compressed, parsed, sums}
use Rattle.digest.proofs.Bytes.{length-parsed}
use Rattle.digest.proofs.Schedule.{stands_none, stands_at}
use Rattle.digest.proofs.block.compress.Goals as goal

pub loop-q-init : goal.loop-q-init
loop-q-init c = stands_none c.args.value.now (parsed c.args.block.now 16) _ refl c.load.ensures

pub loop-q-preserved : goal.loop-q-preserved
loop-q-preserved c =
    let m = parsed c.args.block.now 16 in
    stands_at _ _ (omega arith) (c.sixteen_turns-y.ensures c.args.value.now m (length-parsed c.args.block.now 16) c.loop-q.invariant)

pub returns : goal.returns
unfolding compressed
returns c =
    let m = parsed c.args.block.now 16 in
    let done =
    c.last_rounds.ensures c.args.value.now m (length-parsed c.args.block.now 16) (stands_at _ 48 (omega arith) c.loop-q.invariant) in
    c.add_words-after.ensures ∙ ap (sums c.args.value.now) done
