use Rattle.std.proofs.Common.{◌≡◌, ◌+◌, ◌-◌, ◌++◌, length, take, append_assoc, add_assoc, arith, rules}
use Rattle.std.proofs.lemmas.List.{length-take-le}
use Rattle.ratchet.specs.Blank.{blank}
use Rattle.ratchet.specs.State.{places, state_of}
use Rattle.ratchet.proofs.Put.{length_both, grown_front, grown_rest}
use Rattle.ratchet.proofs.Kept.{kept_new}
use Rattle.ratchet.proofs.steps.take_new.Goals as goal

pub invariant_of-result : goal.invariant_of-result
invariant_of-result c =
    let side = c.args.side in
    let m = c.args.message.mark in
    let left = c.left_over-left.result in
    let size : length side.marks ≡ 512 = search rules in
    let new = places (side.drawn - 2) side.taken left ++ places m.link 0 m.place in
    record {
      few = omega arith;
      rest =
          grown_rest side.marks _ new side.count (left + m.place) _ (omega arith) (length_both (side.drawn - 2) side.taken left m.link 0 m.place)
          c.with_new_link-marks.ensures (add_assoc side.count left m.place) blank 512 side.rest;
    }

pub returns-clause-answer : goal.returns-clause-answer
returns-clause-answer c =
    let side = c.args.side in
    let m = c.args.message.mark in
    let left = c.left_over-left.result in
    let size : length side.marks ≡ 512 = search rules in
    let old = places (side.drawn - 2) side.taken left in
    let new = places m.link 0 m.place in
    let held = length-take-le side.count side.marks (omega arith) in
    let front = grown_front side.marks _ (old ++ new) side.count (left + m.place) _ (omega arith) (length_both (side.drawn - 2) side.taken left m.link 0 m.place)
    c.with_new_link-marks.ensures (add_assoc side.count left m.place) in
    let split = append_assoc (take side.count side.marks) old new in
    let over = c.left_over-left.ensures in
    kept_new c.args.opens (state_of side) c.args.message c.if-not-opens.false side.count held (omega (arith, over)) (omega arith) (omega (arith, over)) (omega arith) _ (cc)
