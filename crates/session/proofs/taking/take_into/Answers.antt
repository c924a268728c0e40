-- The text moves to the output, and where it was opened is blank.
use Rattle.session.proofs.Dispatch.{handed}
use Rattle.session.proofs.taking.take_into.Goals as goal

pub returns-clause-answer : goal.returns-clause-answer
returns-clause-answer g c = λ k e.
    handed g.B.KeyBox.keys c.args.session c.args.slots.now c.take_read-taken.new.slots _ c.take_read-taken.new.text c.hand_out.new.out c.args.own.now c.take_read-taken.new.own c.take_read-taken.result
    c.hand_out.ensures.text (c.take_read-taken.ensures.answer k e)
