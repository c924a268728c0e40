use Rattle.std.proofs.Common.{map, vec_items, vec_len, ◌∙◌}
use Rattle.ratchet.specs.State.{state_of}
use Rattle.exposure.proofs.Starting.{key_reached, key_held, known_decides}
use Rattle.exposure.proofs.Adding.{held-contains}
use Rattle.exposure.proofs.working.Workings.known.Goals as goal

pub returns-then-at_or_after : goal.returns-then-at_or_after
returns-then-at_or_after c =
    let w = c.args.self.now in
    let rs = map state_of w.readings.now in
    let is = key_reached rs (vec_items w.starts) w.chain_starts c.args.mark (vec_len w.starts) w.starts.ok.0 c.requires _ c.index-start.ensures _ c.at_or_after.ensures
    c.if-at_or_after.true in
    record { value = is; decides = known_decides rs c.args.mark _ is }

pub returns-else-at_or_after : goal.returns-else-at_or_after
returns-else-at_or_after c =
    let w = c.args.self.now in
    let rs = map state_of w.readings.now in
    let held = c.contains.ensures ∙ held-contains rs w.keys.keys w.keys_held c.args.mark in
    let is = key_held rs (vec_items w.starts) w.chain_starts c.args.mark (vec_len w.starts) w.starts.ok.0 c.requires _ c.index-start.ensures _ c.at_or_after.ensures
    _ c.if-at_or_after.false held in
    record { value = is; decides = known_decides rs c.args.mark _ is }
