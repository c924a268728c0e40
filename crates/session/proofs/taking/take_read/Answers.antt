-- By the tests in their order.
use Rattle.std.proofs.Common.{sym, ◌∙◌, eq-eqb}
use Rattle.std.proofs.lemmas.Bool.{ne_eqb}
use Rattle.ratchet.specs.State.{state_of}
use Rattle.ratchet.proofs.Sought.{mark_there, no_mark}
use Rattle.session.proofs.Dispatch.{taken_in_turn, taken_recalled, taken_new, taken_nowhere}
use Rattle.session.proofs.taking.take_read.Goals as goal

pub returns-then-is_in_turn : goal.returns-then-is_in_turn
returns-then-is_in_turn g c =
    let taken = taken_in_turn g.B.KeyBox.keys g.B.KeyBox.scheme c.args.session c.args.message.now c.args.slots.now c.take_in_turn.new.slots c.take_in_turn.new.text c.args.own.now c.take_in_turn.result
    (sym c.is_in_turn.ensures ∙ c.if-is_in_turn.true) c.take_in_turn.ensures in
    record { leaves = taken.0; answer = taken.1 }

pub returns-in-Some : goal.returns-in-Some
returns-in-Some g c =
    let taken = taken_recalled g.B.KeyBox.keys g.B.KeyBox.scheme c.args.session c.args.message.now c.args.slots.now c.take_recalled.new.slots c.take_recalled.new.text c.args.own.now c.take_recalled.result
    (sym c.is_in_turn.ensures ∙ c.if-is_in_turn.false) (mark_there c.args.message.now.header.message.mark (state_of c.args.session.side).skipped c.in-Some.i (sym c.in-Some.ensures)) c.take_recalled.ensures in
    record { leaves = taken.0; answer = taken.1 }

pub take_new-requires-clause-aside : goal.take_new-requires-clause-aside
take_new-requires-clause-aside g c = no_mark c.args.message.now.header.message.mark (state_of c.args.session.side).skipped (sym c.in_default.ensures)

pub returns-then-message-session : goal.returns-then-message-session
returns-then-message-session g c =
    let taken = taken_new g.B.KeyBox.keys g.B.KeyBox.scheme c.args.session c.args.message.now c.args.slots.now c.take_new.new.slots c.take_new.new.text c.args.own.now c.take_new.result
    c.take_new.new.own (sym c.is_in_turn.ensures ∙ c.if-is_in_turn.false) (no_mark c.args.message.now.header.message.mark (state_of c.args.session.side).skipped (sym c.in_default.ensures)) (eq-eqb _ _ c.if-message-session.true)
    c.take_new.ensures.leaves c.take_new.ensures.answer in
    record { leaves = taken.0; answer = taken.1 }

pub returns : goal.returns
returns g c =
    let taken = taken_nowhere g.B.KeyBox.keys g.B.KeyBox.scheme c.args.session c.args.message.now c.args.slots.now c.args.text.now c.args.own.now
    (sym c.is_in_turn.ensures ∙ c.if-is_in_turn.false) (no_mark c.args.message.now.header.message.mark (state_of c.args.session.side).skipped (sym c.in_default.ensures)) (ne_eqb _ _ c.if-message-session.false) in
    record { leaves = taken.0; answer = taken.1 }
