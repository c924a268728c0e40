-- The last bytes and their padding give the digest of the whole message.
use Rattle.std.proofs.Common.{refl, ap, ◌∙◌}
use Rattle.digest.specs.Sha256.{bytes, sha_256}
use Rattle.digest.proofs.Alone.{alone_padded}
use Rattle.digest.proofs.Streamed.{close_holds}
use Rattle.digest.proofs.streaming.Hasher.finish.Goals as goal

pub returns : goal.returns
unfolding sha_256
returns c = record {
  digest = λ m h. c.write_words.ensures ∙ ap bytes (c.close.ensures ∙ close_holds c.args.self.now m _ _ h refl c.in_bits-bits.ensures);
  alone = λ m h. alone_padded m;
  after = c.new.ensures.value;
}
