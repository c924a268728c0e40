use Rattle.std.proofs.Common.{map, sym, ◌∙◌}
use Rattle.ratchet.specs.State.{state_of}
use Rattle.exposure.proofs.Upward.{below_none, below_more, links_none, links_more, upward}
use Rattle.exposure.proofs.rule.links_open.Goals as goal

pub loop-n-init : goal.loop-n-init
loop-n-init c =
    let rs = map state_of c.args.readings.now in
    (c.new-links.ensures.items ∙ sym (links_none rs), c.read_at-drawn.ensures.read, sym (below_none rs))

pub loop-n-preserved : goal.loop-n-preserved
loop-n-preserved c =
    let rs = map state_of c.args.readings.now in
    let n = c.loop-n.n in
    let inv = c.loop-n.invariant in
    let here = upward rs n _ _ _ _ _ inv.1 inv.2 c.root_by-root.ensures c.read_at-drawn_next.ensures.read c.link_by-link.ensures in
    let more = links_more rs n in
    let pushed = c.in_ok-push.ensures.items in
    let old = inv.0 in
    (cc, c.read_at-drawn_next.ensures.read, here ∙ sym (below_more rs n))
