use Rattle.std.proofs.Common.{map}
use Rattle.ratchet.specs.State.{state_of}
use Rattle.exposure.proofs.Starting.{from_first, from_held, earliest-reaches}
use Rattle.exposure.proofs.working.chain_start.Goals as goal

pub returns-then-known : goal.returns-then-known
returns-then-known c = λ i. from_first (map state_of c.args.readings.now) c.args.link i c.args.known c.requires c.if-known.true

pub returns-else-known : goal.returns-else-known
returns-else-known c = λ i.
    from_held (map state_of c.args.readings.now) c.args.link i c.args.known _ c.requires c.if-known.false
    (earliest-reaches c.args.link i c.args.readings.now c.earliest.result c.earliest.ensures)
