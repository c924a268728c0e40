-- By whether the text opens, and then by what the bookkeeping answers.
use Rattle.std.proofs.Common.{rules}
use Rattle.session.proofs.FromSlot.{recalled_shut, recalled_refused, recalled_opens}
use Rattle.session.proofs.recalled.take_recalled.Goals as goal

pub returns-in_default : goal.returns-in_default
returns-in_default c =
    recalled_shut c.args.session c.args.slots.now c.args.message.now c.args.i (search rules) (search rules) c.requires.turn c.requires.found _ c.in_default.ensures

pub returns-in-Refused : goal.returns-in-Refused
returns-in-Refused c =
    recalled_refused c.args.session c.args.slots.now c.args.message.now c.args.i (search rules) (search rules) c.requires.turn c.requires.found _ _ _
    c.in-Some.ensures.1 c.in-Refused.ensures.answer

pub returns-in-Opened : goal.returns-in-Opened
returns-in-Opened c =
    recalled_opens c.args.session c.args.slots.now c.args.message.now c.args.i (search rules) (search rules) c.requires.turn c.requires.found
    c.in-Opened.side (search rules) c.in-Opened.ensures.answer c.take_out.new.slots c.take_out.ensures _ _ _ c.in-Some.ensures.0 c.in-Some.ensures.1
