-- One entry behind another.
use Rattle.std.proofs.Common.{◌≡◌, ℕ, ◌+◌, [], ◌∷◌, map, length, take, sym, refl, subst, arith, rules, length-append}
use Rattle.std.proofs.lemmas.Slice.Zip.{zip_turn}
use Rattle.session.specs.Views.{key_in}
use Rattle.page.specs.Layout.{aside_bytes}
use Rattle.page.proofs.Entries.{aside_none, aside-more}
use Rattle.page.proofs.putting.put_aside.Goals as goal

pub loop-mark-init : goal.loop-mark-init
loop-mark-init c = record { here = refl; so_far = sym aside_none; within = omega arith }

pub loop-mark-preserved : goal.loop-mark-preserved
loop-mark-preserved c =
    let turn = zip_turn c.args.marks.now c.args.keys.now c.loop-mark.yielded c.into_iter-mark-iterator.result c.loop-mark.mark-iterator c.next.new.self c.next.result
    (search rules) (search rules) c.loop-mark.yielded_by (c.in-Some.mark, c.in-Some.key) c.in-Some.is c.next.ensures.steps in
    let ms = c.args.marks.now in
    let ks = c.args.keys.now in
    let i = length c.loop-mark.yielded in
    let one_more = length-append c.loop-mark.yielded ((c.in-Some.mark, c.in-Some.key) ∷ []) in
    let put = aside-more ms ks c.loop-mark.out c.put_entry.new.out i c.loop-mark.at c.in-Some.mark.now c.in-Some.key.now turn.0 c.requires.step (omega arith) (omega arith)
    c.loop-mark.invariant.here (turn.2 _) (turn.3 _) c.loop-mark.invariant.so_far c.put_entry.ensures in
    record {
      here = omega (arith, one_more);
      so_far = subst (λ (n : ℕ). take (c.loop-mark.at + 40) c.put_entry.new.out ≡ aside_bytes (take n ms) (map key_in (take n ks))) (sym one_more) put;
      within = omega (arith, one_more, turn.0);
    }
