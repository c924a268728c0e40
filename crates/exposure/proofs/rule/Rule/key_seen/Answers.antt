use Rattle.std.proofs.Common.{map, ◌∙◌}
use Rattle.ratchet.specs.State.{state_of}
use Rattle.exposure.proofs.Upward.{seen_from}
use Rattle.exposure.proofs.Adding.{aside-contains}
use Rattle.exposure.proofs.rule.Rule.key_seen.Goals as goal

pub returns : goal.returns
returns c =
    let rule = c.args.self.now in
    let rs = map state_of rule.readings.now in
    seen_from rs c.args.mark _ _ _ c.seen.ensures (c.contains.ensures ∙ aside-contains rs rule.aside.keys rule.put_aside c.args.mark) c.key_by.ensures
