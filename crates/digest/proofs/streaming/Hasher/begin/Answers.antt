-- One block is absorbed, and nothing is pending.
use Rattle.std.proofs.Common.{refl}
use Rattle.digest.proofs.Keyed.{begun}
use Rattle.digest.proofs.streaming.Hasher.begin.Goals as goal

pub returns : goal.returns
returns c =
    begun c.new.result _ c.args.bytes.now _ _ c.args.pad c.new.ensures.value c.requires
    c.put.ensures c.xor_each.ensures c.compress.ensures refl
