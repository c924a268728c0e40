-- The worked cases, by computing each run.
use Rattle.std.proofs.Common.{refl}
use lib.Dec.{leb-zero}
use Rattle.ratchet.specs.State.{has, without, places}
use Rattle.runs.specs.World.{run, among}
use Rattle.runs.specs.Rule.{any_read, root_open}
use Rattle.runs.specs.Cases.{CasesHold}

pub cases-hold : CasesHold
unfolding run among has without places any_read root_open
cases-hold =
    (refl, (refl, ((refl, refl), (((λ i. rw (leb-zero i)), refl), ((refl, (λ i. refl)), ((refl, refl), ((refl, refl, refl), ((refl, refl, refl), tt))))))))
