use Rattle.std.proofs.Common.{◌∙◌, sym}
use Rattle.exposure.proofs.Adding.{mark_order, order-apart, adds_there, adds_inserted}
use Rattle.exposure.proofs.readings.add.Goals as goal

pub returns-then-contains : goal.returns-then-contains
returns-then-contains c = adds_there mark_order order-apart c.args.set.now.keys _ (sym c.contains.ensures ∙ c.if-contains.true)

pub returns : goal.returns
returns c = adds_inserted mark_order order-apart c.args.set.now.keys c.insert.new.self.keys _ c.in_ok-insert.ensures.keys
