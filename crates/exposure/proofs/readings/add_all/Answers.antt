use Rattle.ratchet.specs.Blank.{blank}
use Rattle.exposure.proofs.Adding.{adds_none, adds_more}
use Rattle.exposure.proofs.readings.add_all.Goals as goal

pub loop-mark-init : goal.loop-mark-init
loop-mark-init c = adds_none c.args.set.now.keys

pub loop-mark-preserved : goal.loop-mark-preserved
loop-mark-preserved c =
    adds_more c.args.set.now.keys c.args.marks.now c.loop-mark.set.keys c.add.new.set.keys c.loop-mark.mark-index blank c.loop-mark-test.true
    c.loop-mark.invariant c.in_ok-add.ensures
