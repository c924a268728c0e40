-- By whether the text opens, then by what the bookkeeping answers, and then by whether the box gives a key.
use Rattle.std.proofs.Common.{◌≡◌, length, refl, ◌∙◌, arith, rules}
use Rattle.std.proofs.lemmas.List.{length-take-le}
use Rattle.ratchet.specs.State.{state_of}
use Rattle.session.specs.Ours.{ours, draw_of}
use Rattle.session.specs.Views.{held_of}
use Rattle.session.specs.Takes.{parts_of}
use Rattle.session.proofs.NewLinks.{opened_new, shut_new, book_new, turned, turned-leaves}
use Rattle.session.proofs.NewLinks.{text_new_lem}
use Rattle.session.proofs.new_link.take_new.Goals as goal

pub returns-in_default : goal.returns-in_default
returns-in_default g c = record {
  leaves = (refl, refl, refl);
  answer = λ k e.
      let s = c.args.session in
      let few = s.side.few in
      let over = c.left_over-left.ensures in
      let size : length s.side.marks ≡ 512 = search rules in (
        refl,
        λ fresh. record {
          step = shut_new (ours g.B.KeyBox.scheme) (draw_of k) fresh (held_of s c.args.slots.now) (parts_of c.args.message.now)
              (c.in_default.ensures.begins k e c.args.slots.now) s.side.count (length-take-le s.side.count s.side.marks (omega arith)) (omega (arith, over)) (omega arith) (omega (arith, over));
          session = refl;
          slots = refl;
        },
      );
}

pub returns-in-Refused : goal.returns-in-Refused
returns-in-Refused g c = record {
  leaves = (refl, refl, refl);
  answer = λ k e.
      let s = c.args.session in
      let m = c.args.message.now in
      let begins = c.in-Some.ensures.begins k e in (
        refl,
        λ fresh. record {
          step = opened_new (ours g.B.KeyBox.scheme) (draw_of k) fresh (held_of s c.args.slots.now) (parts_of m) _ _
              (text_new_lem g.B.KeyBox.scheme k s c.args.slots.now m begins.joint _ _ _ _ begins.gives begins.chain refl refl (begins.opens g.B.KeyBox.scheme))
              (c.in-Refused.ensures.answer ∙ book_new (state_of s.side) m c.requires.turn c.requires.aside c.requires.new);
          session = refl;
          slots = refl;
        },
      );
}

pub returns-in-Opened : goal.returns-in-Opened
returns-in-Opened g c = record {
  leaves = turned-leaves g.B.KeyBox.keys g.B.KeyBox.scheme c.args.session c.in-Opened.side c.in-Some.begun _ _ _ _ _ _ c.in-Some.ensures.short c.turn.result c.turn.ensures;
  answer = λ k e.
      let s = c.args.session in
      let m = c.args.message.now in
      let box = g.B.KeyBox in
      let begins = c.in-Some.ensures.begins k e in
      let before : length s.side.marks ≡ 512 = search rules in
      let after : length c.in-Opened.side.marks ≡ 512 = search rules in
      turned box.keys box.scheme k s c.in-Opened.side c.in-Some.begun m c.open_new.new.text
      c.args.slots.now c.turn.new.slots c.args.own.now c.turn.new.own c.left_over-left.result
      (c.in-Opened.ensures.answer ∙ book_new (state_of s.side) m c.requires.turn c.requires.aside c.requires.new) c.left_over-left.ensures begins before after c.turn.result c.turn.ensures;
}
