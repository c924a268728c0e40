use Rattle.std.proofs.Common.{map, vec_items, vec_len}
use Rattle.ratchet.specs.State.{state_of}
use Rattle.exposure.proofs.Ors.{or_first, or_second}
use Rattle.exposure.proofs.Upward.{in_table}
use Rattle.exposure.proofs.rule.Rule.exposed.Goals as goal

pub returns-then-index : goal.returns-then-index
returns-then-index c =
    let rule = c.args.self.now in
    or_first _ _ _ (in_table (map state_of rule.readings.now) (vec_items rule.links) (vec_len rule.links) c.args.mark.link _ _ rule.links_open c.requires c.index.ensures) c.if-index.true

pub returns-else-index : goal.returns-else-index
returns-else-index c =
    let rule = c.args.self.now in
    or_second _ _ _ _ (in_table (map state_of rule.readings.now) (vec_items rule.links) (vec_len rule.links) c.args.mark.link _ _ rule.links_open c.requires c.index.ensures) c.if-index.false
    c.key_seen.ensures
