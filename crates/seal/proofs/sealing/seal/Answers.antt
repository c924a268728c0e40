use Rattle.std.proofs.Common.{length, refl, ◌∙◌, arith}
use Rattle.seal.proofs.Sealings.{seal-written}
use Rattle.seal.proofs.sealing.seal.Goals as goal

pub returns : goal.returns
returns c =
    record {
      counts = c.counts.ensures.0 c.if-not-counts.false;
      counted = refl;
      room = omega arith;
      output = seal-written c.args.key.now.0 c.args.header.now c.args.text.now c.args.out.now c.cover.new.out c.copy_from_slice.new.self (length c.args.text.now) refl (omega arith) c.cover.ensures (c.copy_from_slice.ensures.after ∙ c.tag-made.ensures);
    }
