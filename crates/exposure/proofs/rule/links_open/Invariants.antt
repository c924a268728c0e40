use Rattle.std.proofs.Common.{◌≡◌, map, vec_items}
use Rattle.ratchet.specs.State.{state_of}
use Rattle.runs.specs.Rule.{read_at}
use Rattle.exposure.specs.Links.{links_to}
use Rattle.exposure.proofs.Upward.{below_open}
use Rattle.exposure.proofs.rule.links_open.Given as goal

abbrev pub invariant-loop-n : goal.invariant-loop-n
invariant-loop-n l =
    (vec_items l.links ≡ links_to (map state_of l.readings) l.n) × (l.drawn ≡ read_at (map state_of l.readings) l.n)
    × (l.below ≡ below_open (map state_of l.readings) l.n)
