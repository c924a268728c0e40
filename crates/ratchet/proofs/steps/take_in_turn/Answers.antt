use Rattle.std.proofs.Common.{◌≡◌, ◌-◌, length, refl, arith, rules}
use Rattle.std.proofs.lemmas.List.{length-take-le}
use Rattle.ratchet.specs.Blank.{blank}
use Rattle.ratchet.specs.State.{places, state_of}
use Rattle.ratchet.proofs.Put.{length-places, grown_front, grown_rest}
use Rattle.ratchet.proofs.Kept.{kept_in_turn}
use Rattle.ratchet.proofs.steps.take_in_turn.Goals as goal

pub invariant_of-next : goal.invariant_of-next
invariant_of-next c =
    let side = c.args.side in
    let n = c.args.message.mark.place - side.taken in
    let size : length side.marks ≡ 512 = search rules in
    let new = places c.args.message.mark.link side.taken n in
    record { few = omega arith; rest = grown_rest side.marks _ new side.count n _ (omega arith) (length-places _ _ n) c.put.ensures refl blank 512 side.rest }

pub returns-clause-answer : goal.returns-clause-answer
returns-clause-answer c =
    let side = c.args.side in
    let n = c.args.message.mark.place - side.taken in
    let size : length side.marks ≡ 512 = search rules in
    let new = places c.args.message.mark.link side.taken n in
    let held = length-take-le side.count side.marks (omega arith) in
    let front = grown_front side.marks _ new side.count n _ (omega arith) (length-places _ _ n) c.put.ensures refl in
    kept_in_turn c.args.opens (state_of side) c.args.message c.if-not-opens.false side.count held (omega arith) (omega arith) (omega arith) _ (cc)
