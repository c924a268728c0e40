-- By whether the text opens, and then by what the bookkeeping answers.
use Rattle.std.proofs.Common.{arith, rules}
use Rattle.session.proofs.InTurn.{in_turn_shut, in_turn_refused, in_turn_opens}
use Rattle.session.proofs.in_turn.take_in_turn.Goals as goal

pub returns-in_default : goal.returns-in_default
returns-in_default c =
    in_turn_shut c.args.session c.args.slots.now c.args.message.now (search rules) c.requires _ c.key_at.ensures.key (omega arith) (omega arith) c.in_default.ensures.opens

pub returns-in-Refused : goal.returns-in-Refused
returns-in-Refused c =
    in_turn_refused c.args.session c.args.slots.now c.args.message.now (search rules) c.requires _ c.key_at.ensures.key _ _ c.in-Some.ensures.opens.1 c.in-Refused.ensures.answer

pub returns-in-Opened : goal.returns-in-Opened
returns-in-Opened c =
    in_turn_opens c.args.session c.args.slots.now c.args.message.now (search rules) c.requires _ c.key_at.ensures.key
    c.in-Opened.side (search rules) c.in-Opened.ensures.answer c.key_at.result.1 c.key_at.ensures.next c.put_along.new.slots c.put_along.ensures.keys c.put_along.ensures.rest
    c.open_once.new.text c.in-Some.size c.in-Some.ensures.opens.0 c.in-Some.ensures.opens.1
