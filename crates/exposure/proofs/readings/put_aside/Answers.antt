use Rattle.std.proofs.Common.{map, sym, ap, ◌∙◌}
use Rattle.ratchet.specs.State.{state_of, has}
use Rattle.exposure.proofs.Adding.{aside_none, aside-more, aside-all, held-by_aside, none_there, there_now, still_there}
use Rattle.exposure.proofs.readings.put_aside.Goals as goal

pub loop-side-init : goal.loop-side-init
loop-side-init c = (aside_none c.new-marks.result.keys c.new-marks.ensures.empty, none_there c.new-marks.result.keys, none_there c.new-marks.result.keys)

pub add_new-requires : goal.add_new-requires
add_new-requires c = record { last = c.loop-side.invariant.1; before = c.loop-side.invariant.2 }

pub loop-side-preserved : goal.loop-side-preserved
loop-side-preserved c =
    let adds = c.in_ok-add_new.ensures in (
      aside-more c.args.readings.now c.loop-side.marks.keys c.add_new.new.set.keys c.loop-side.side-index c.side-item.result c.side-item.is
          c.loop-side-test.true c.loop-side.invariant.0 _ c.aside.ensures adds,
      λ m t. there_now c.loop-side.marks.keys c.aside.result.now c.add_new.new.set.keys adds m (ap (has m) (c.aside.ensures ∙ sym c.aside-last.ensures) ∙ t),
      λ m t. still_there c.loop-side.marks.keys c.aside.result.now c.add_new.new.set.keys adds m (c.loop-side.invariant.1 m t),
    )

pub returns : goal.returns
returns c =
    let aside = aside-all c.args.readings.now c.loop-side.marks.keys c.loop-side.side-index c.loop-side-test.false c.loop-side.invariant.0 in
    record { aside = aside; held = held-by_aside (map state_of c.args.readings.now) c.loop-side.marks.keys aside }
