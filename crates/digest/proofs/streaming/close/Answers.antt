-- The padding in one block, and in two.
use Rattle.std.proofs.Common.{arith}
use Rattle.digest.proofs.Padded.{close_one, close_two}
use Rattle.digest.proofs.streaming.close.Goals as goal

pub returns-then-used-lt56 : goal.returns-then-used-lt56
returns-then-used-lt56 c =
    close_one c.args.value.now c.args.last.now c.args.used c.args.bits (omega arith) _ _ _ (omega arith)
    c.mark.ensures c.write_length.ensures c.compress.ensures

pub returns : goal.returns
returns c =
    close_two c.args.value.now c.args.last.now c.args.used c.args.bits (omega arith) _ _ _ _ _ (omega arith) (omega arith)
    c.mark.ensures c.compress-2.ensures (c.fill.ensures.after (λ y e. e)) c.write_length-2.ensures c.compress-3.ensures
