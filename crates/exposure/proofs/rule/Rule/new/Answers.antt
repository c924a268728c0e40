use Rattle.std.proofs.Common.{map, vec_items, vec_len, sym, refl, ap, ◌∙◌}
use Rattle.ratchet.specs.State.{state_of}
use Rattle.exposure.specs.Links.{links_to}
use Rattle.exposure.proofs.Upward.{table_length}
use Rattle.exposure.proofs.rule.Rule.new.Goals as goal

pub invariant_of-result : goal.invariant_of-result
invariant_of-result c =
    let rs = map state_of c.args.readings.now in
    let links = c.in_ok-links.links in
    let len = table_length rs (vec_items links) c.args.count (vec_len links) c.in_ok-links.ensures links.ok.0 in
    record { links_open = c.in_ok-links.ensures ∙ ap (links_to rs) (sym len); put_aside = c.in_ok-aside.ensures.aside }

pub returns : goal.returns
returns c =
    let links = c.in_ok-links.links in
    (refl, table_length (map state_of c.args.readings.now) (vec_items links) c.args.count (vec_len links) c.in_ok-links.ensures links.ok.0)
