-- A long key by its digest, a short one as it is.
use Rattle.std.proofs.Common.{arith}
use Rattle.digest.proofs.Keyed.{key-long, key-short, macs_none}
use Rattle.digest.proofs.mac.Mac.begin.Goals as goal

pub returns-then-key-gt64 : goal.returns-then-key-gt64
returns-then-key-gt64 c =
    macs_none _ c.args.key.now _ (key-long c.args.key.now c.sha256-digest.result (omega arith) c.sha256-digest.ensures)
    c.begin_short.ensures.inner c.begin_short.ensures.outer

pub returns-else-key-gt64 : goal.returns-else-key-gt64
returns-else-key-gt64 c =
    macs_none _ c.args.key.now _ (key-short c.args.key.now (omega arith)) c.begin_short-else-key-gt64.ensures.inner c.begin_short-else-key-gt64.ensures.outer
