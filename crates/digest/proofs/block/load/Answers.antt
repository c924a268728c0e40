-- Each word is the block's.
use Rattle.std.proofs.Common.{rules, sym, ◌∙◌}
use Rattle.octets.proofs.Made.{made}
use Rattle.digest.specs.Sha256.{word}
use Rattle.digest.proofs.Bytes.{parsed-by}
use Rattle.digest.proofs.block.load.Goals as goal

pub returns : goal.returns
returns c = made _ _ (word c.args.block.now) (λ i y q call. search rules) c.from_fn.result 16 c.from_fn.ensures.items ∙ sym (parsed-by c.args.block.now 16)
