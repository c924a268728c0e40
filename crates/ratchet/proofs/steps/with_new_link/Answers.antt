use Rattle.std.proofs.Common.{◌≡◌, ◌+◌, ◌-◌, List, length, arith, rules}
use Rattle.std.proofs.lemmas.Bool.Decides.{nat_tests}
use lib.Seq.{paste}
use Rattle.ratchet.specs.declared.types.Mark.{Mark}
use Rattle.ratchet.specs.State.{places}
use Rattle.ratchet.proofs.Put.{length-places, put_both, put_none}
use Rattle.ratchet.proofs.steps.with_new_link.Goals as goal
use Rattle.ratchet.proofs.steps.with_new_link.Goals.{then-left-gt0, else-left-gt0}

pub returns : goal.returns
returns c =
    let side = c.args.side in
    let m = c.args.message in
    let left = c.args.left in
    let old = places (side.drawn - 2) side.taken left in
    let new = places m.mark.link 0 m.mark.place in
    let size : length side.marks ≡ 512 = search rules in
    let z : m.mark.place - 0 ≡ m.mark.place = omega arith in
    let put = c.put-2.ensures in
    let both = λ (ys : List Mark) (e : ys ≡ paste side.marks side.count old left) (f : c.put-2.new.slots ≡ paste ys (side.count + left) new m.mark.place).
    put_both side.marks ys c.put-2.new.slots old new side.count left m.mark.place (length-places _ _ _) (length-places _ _ _) (omega arith) e f in
    elim c.if-left-gt0.branch [
      | then-left-gt0 w ↦
          let n : m.before - side.taken ≡ left = grind (arith, nat_tests, c.requires.counted) in
          let first = w.put.ensures in
          both c.if-left-gt0.marks (cc) (cc)
      | else-left-gt0 w ↦
          let none = put_none side.marks side.count (side.drawn - 2) side.taken left (omega arith) in
          both c.if-left-gt0.marks (cc) (cc)
    ]
