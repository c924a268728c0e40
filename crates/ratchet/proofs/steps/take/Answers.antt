use Rattle.std.proofs.Common.{◌≡◌, false, take, sym, ◌∙◌}
use Rattle.std.proofs.lemmas.Bool.{cond-true, cond-false, eq-eqb, ne_eqb}
use Rattle.ratchet.specs.State.{state_of}
use Rattle.ratchet.specs.Steps.{in_turn}
use Rattle.ratchet.proofs.Kept.{take-recalled, take-elsewhere}
use Rattle.ratchet.proofs.Sought.{mark_there, mark_out, no_mark}
use Rattle.ratchet.proofs.steps.take.Goals as goal

pub take_recalled-requires-clause-found : goal.take_recalled-requires-clause-found
take_recalled-requires-clause-found c =
    let side = c.args.side in
    mark_out c.args.message.mark (take side.count side.marks) c.in-Some.i (sym c.slot_of.ensures ∙ c.in-Some.is)

pub returns-in-Some-clause-answer : goal.returns-in-Some-clause-answer
returns-in-Some-clause-answer c =
    let side = c.args.side in
    let m = c.args.message in
    let turn : in_turn (state_of side) m ≡ false = sym c.is_in_turn.ensures ∙ c.if-is_in_turn.false in
    let found = mark_there m.mark (take side.count side.marks) c.in-Some.i (sym c.slot_of.ensures ∙ c.in-Some.is) in
    c.take_recalled.ensures.answer ∙ sym (take-recalled c.args.opens (state_of side) m turn found)

pub returns-then-message-side-clause-answer : goal.returns-then-message-side-clause-answer
returns-then-message-side-clause-answer c =
    let side = c.args.side in
    let m = c.args.message in
    let turn : in_turn (state_of side) m ≡ false = sym c.is_in_turn.ensures ∙ c.if-is_in_turn.false in
    let none = no_mark m.mark (take side.count side.marks) (sym c.slot_of.ensures ∙ c.in-None.is) in
    c.take_new.ensures.answer ∙ sym (take-elsewhere c.args.opens (state_of side) m turn none ∙ cond-true _ _ _ (eq-eqb _ _ c.if-message-side.true))

pub returns-else-message-side-clause-answer : goal.returns-else-message-side-clause-answer
returns-else-message-side-clause-answer c =
    let side = c.args.side in
    let m = c.args.message in
    let turn : in_turn (state_of side) m ≡ false = sym c.is_in_turn.ensures ∙ c.if-is_in_turn.false in
    let none = no_mark m.mark (take side.count side.marks) (sym c.slot_of.ensures ∙ c.in-None.is) in
    sym (take-elsewhere c.args.opens (state_of side) m turn none ∙ cond-false _ _ _ (ne_eqb _ _ c.if-message-side.false))
