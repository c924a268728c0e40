use Rattle.std.proofs.Common.{ℕ, ◌+◌, map, vec_items, sym, ap, ◌∙◌}
use Rattle.ratchet.specs.State.{state_of}
use Rattle.exposure.proofs.Starting.{below_none, below_more, upward, starts_none, starts_more}
use Rattle.exposure.proofs.working.chain_starts.Goals as goal

pub loop-n-init : goal.loop-n-init
loop-n-init c =
    let rs = map state_of c.args.readings.now in
    (c.new-starts.ensures.len, starts_none rs _ c.new-starts.ensures.items, c.read_at-half.ensures.half, c.read_at-half.ensures.root, sym (below_none rs))

pub chain_start-start-requires : goal.chain_start-start-requires
chain_start-start-requires c =
    let inv = c.loop-n.invariant in
    upward (map state_of c.args.readings.now) c.loop-n.n _ _ _ _ _ inv.2 inv.3 inv.4 c.root_by-root.ensures c.read_at-next_half.ensures.half
    c.link_by-known.ensures

pub loop-n-preserved : goal.loop-n-preserved
loop-n-preserved c =
    let rs = map state_of c.args.readings.now in
    let n = c.loop-n.n in
    let inv = c.loop-n.invariant in
    let here = upward rs n _ _ _ _ _ inv.2 inv.3 inv.4 c.root_by-root.ensures c.read_at-next_half.ensures.half c.link_by-known.ensures in (
      c.in_ok-push.ensures.len ∙ ap (λ (k : ℕ). k + 1) inv.0,
      starts_more rs (vec_items c.loop-n.starts) (vec_items c.push.new.self) c.chain_start-start.result n c.in_ok-push.ensures.items
          (sym inv.0 ∙ c.loop-n.starts.ok.0) inv.1 c.chain_start-start.ensures,
      c.read_at-next_half.ensures.half,
      c.read_at-next_half.ensures.root,
      here ∙ sym (below_more rs n),
    )
