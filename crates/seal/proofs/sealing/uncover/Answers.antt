use Rattle.std.proofs.Common.{refl, arith}
use Rattle.std.proofs.lemmas.Bool.Decides.{not_from_Decides}
use Rattle.seal.proofs.Sealings.{genuine_came, came_genuine, open_written}
use Rattle.seal.proofs.sealing.uncover.Goals as goal

pub returns-then-not-belongs : goal.returns-then-not-belongs
returns-then-not-belongs c =
    let other = not_from_Decides c.belongs.result c.belongs.ensures c.if-not-belongs.true in
    record {
      reason = (
        omega (arith, c.counts.ensures.0 c.if-not-counts.false),
        omega arith,
        λ genuine. other (came_genuine c.args.key.now.0 c.args.header.now c.args.body.now c.saturating_sub-size.result c.saturating_sub-size.ensures c.part_at.result c.part_at.ensures genuine),
      );
      output = refl;
    }

pub returns : goal.returns
returns c =
    record {
      counts = c.counts.ensures.0 c.if-not-counts.false;
      counted = omega arith;
      room = omega arith;
      genuine = genuine_came c.args.key.now.0 c.args.header.now c.args.body.now c.saturating_sub-size.result c.saturating_sub-size.ensures c.part_at.result (omega arith) c.part_at.ensures (c.belongs.ensures.0 c.if-not-belongs.false);
      output = open_written c.args.key.now.0 c.args.header.now c.args.body.now c.saturating_sub-size.result c.saturating_sub-size.ensures c.args.out.now c.cover.new.out c.cover.ensures;
    }
