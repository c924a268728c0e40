use Rattle.seal.proofs.Sealings.{undone, exactly-sealed}
use Rattle.seal.proofs.sealing.open.Goals as goal

pub returns : goal.returns
returns c =
    record {
      answer = c.uncover.ensures;
      undoes = λ text is counts room. undone c.args.key.now.0 c.args.header.now text c.args.body.now is c.args.out.now c.uncover.new.out c.uncover.result c.uncover.ensures counts room;
      genuine = exactly-sealed c.args.key.now.0 c.args.header.now c.args.body.now;
    }
