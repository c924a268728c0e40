use Rattle.stage.proofs.Deliveries.{handed-over}
use Rattle.stage.proofs.player.Player.hand_over.Goals as goal

pub returns : goal.returns
returns c =
    handed-over c.args.from c.other.result c.other.ensures c.args.message c.args.whole c.args.self.now c.device_mut.result.now c.take.new.self c.take.result
    c.device_mut.ensures.value c.requires c.take.ensures
