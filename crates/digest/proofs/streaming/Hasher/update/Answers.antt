-- A part that fills the pending block, and one that does not.
use Rattle.std.proofs.Common.{refl, arith}
use Rattle.digest.proofs.Streamed.{holds-long, holds-short}
use Rattle.digest.proofs.streaming.Hasher.update.Goals as goal

pub returns-then-used-size-eq64 : goal.returns-then-used-size-eq64
returns-then-used-size-eq64 c = λ m h.
    holds-long c.args.self.now _ m c.args.part.now _ _ _ _ _ _ c.min-size.result h (omega arith)
    refl c.min-size.ensures c.if-used-size-eq64.true c.split_at.ensures.front
    c.put.ensures c.compress.ensures c.split_at.ensures.back c.absorb-behind.ensures.value
    c.absorb-behind.ensures.behind c.put-then-used-size-eq64.ensures c.longer-self.ensures

pub returns-else-used-size-eq64 : goal.returns-else-used-size-eq64
returns-else-used-size-eq64 c = λ m h.
    holds-short c.args.self.now _ m c.args.part.now _ _ c.min-size.result h (omega arith)
    refl c.min-size.ensures c.if-used-size-eq64.false c.split_at.ensures.front
    c.put.ensures refl c.longer-self.ensures
