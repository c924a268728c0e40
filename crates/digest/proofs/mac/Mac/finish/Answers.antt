-- The outer hash of the inner digest.
use Rattle.std.proofs.Common.{◌++◌}
use Rattle.digest.specs.Hmac.{block_key, xored}
use Rattle.digest.proofs.Keyed.{hmac_from, holds-behind}
use Rattle.digest.proofs.mac.Mac.finish.Goals as goal

pub returns : goal.returns
returns c = record {
  tag = λ k m h.
      hmac_from k (m ++ c.args.last.now) c.finish-digest.result _
      (c.finish-digest.ensures.digest (xored 0x36 (block_key k) ++ (m ++ c.args.last.now))
      (holds-behind _ (xored 0x36 (block_key k)) m c.args.last.now (c.update.ensures (xored 0x36 (block_key k) ++ m) h.inner)))
      (c.finish.ensures.digest (xored 0x5c (block_key k) ++ c.finish-digest.result) (c.update-2.ensures (xored 0x5c (block_key k)) h.outer));
  inner = c.finish-digest.ensures.after;
  outer = c.finish.ensures.after;
}
