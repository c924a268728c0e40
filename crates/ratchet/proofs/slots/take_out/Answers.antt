use Rattle.ratchet.proofs.TakenOut.{rotated}
use Rattle.ratchet.proofs.slots.take_out.Goals as goal

pub returns : goal.returns
returns g c = rotated c.args.slots.now c.args.i c.requires c.args.blank c.rotate_left.new.self c.rotate_left.ensures.after
