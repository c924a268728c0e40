-- The front, the number of the keys put aside, and they themselves.
use Rattle.std.proofs.Common.{◌≡◌, ℕ, ◌-◌, map, length, take, sym, refl, ap, ◌∙◌, arith, rules}
use Rattle.std.proofs.lemmas.List.{length-take-le}
use Rattle.exchange.specs.Wire.{two_bytes}
use Rattle.session.specs.Views.{held_of, key_in}
use Rattle.page.specs.Layout.{front_bytes, aside_bytes}
use Rattle.page.proofs.Puts.{front-size, body-put}
use Rattle.page.proofs.writing.put_body.Goals as goal

pub returns : goal.returns
returns c =
    let s = c.args.session.now in
    let slots = c.args.slots.now in
    let n = s.side.count in
    let few = s.side.few in
    let front = c.put_front.ensures slots in
    let size : length s.side.marks ≡ 512 = search rules in
    let count = length-take-le n s.side.marks (omega arith) in
    let long = front-size c.args.out.now c.put_front.new.out (front_bytes (held_of s slots)) 145 front (omega arith) (omega arith) in
    let z : n - 0 ≡ n = omega arith in
    let aside : c.put_aside.new.out ≡ aside_bytes (take n s.side.marks) (map key_in (take n slots)) =
    c.put_aside.ensures ∙ ap (λ (k : ℕ). aside_bytes (take k s.side.marks) (map key_in (take k slots))) z in
    record {
      bytes = body-put (held_of s slots) c.args.out.now _ _ _ _ n long (c.to_be_bytes.ensures ∙ ap two_bytes (sym count)) front c.put.ensures aside (omega arith);
      size = refl;
    }
