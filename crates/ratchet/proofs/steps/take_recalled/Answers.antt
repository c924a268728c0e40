use Rattle.std.proofs.Common.{◌≡◌, length, arith, rules}
use Rattle.ratchet.specs.Blank.{blank}
use Rattle.ratchet.proofs.TakenOut.{shrunk_rest}
use Rattle.ratchet.proofs.steps.take_recalled.Goals as goal

pub invariant_of-next : goal.invariant_of-next
invariant_of-next c =
    let side = c.args.side in
    let l : length side.marks ≡ 512 = search rules in
    record { few = omega arith; rest = shrunk_rest side.marks c.take_out.new.slots side.count c.args.i blank c.requires.within (omega arith) c.take_out.ensures 512 (omega arith) side.rest }
