-- By how the bytes are read, and then by what the step comes to.
use Rattle.std.proofs.Common.{Option, sym, refl, ap, ◌∙◌}
use Rattle.ratchet.specs.Numbers.{number}
use Rattle.ratchet.specs.declared.types.Refusal.{Refusal}
use Rattle.exchange.specs.Wire.{Parts}
use Rattle.exchange.specs.Exchanges as exchange
use Rattle.wire.proofs.Lawful.{was_read, not_read}
use Rattle.session.specs.Ours.{ours, draw_of}
use Rattle.session.specs.Views.{held_of}
use Rattle.session.proofs.Dispatch.{taken_as}
use Rattle.session.proofs.taking.take.Goals as goal

pub returns-in-Err : goal.returns-in-Err
returns-in-Err g c =
    let no = not_read c.args.message.now c.in-Err.why c.in-Err.ensures.answer in
    record {
      leaves = (refl, refl, refl);
      answer = λ k e. (
        refl,
        λ fresh. record {
          step =
              ap (λ (x : Option Parts). exchange.take_read (ours g.B.KeyBox.scheme) (draw_of k) fresh (held_of c.args.session c.args.slots.now) x) no.0
              ∙ ap (λ (why : Refusal). exchange.kept_out (number why)) (sym no.1);
          session = refl;
          slots = refl;
        },
      );
      output = refl;
    }

pub invariant_of-incoming : goal.invariant_of-incoming
invariant_of-incoming g c =
    let read = was_read c.args.message.now c.in-Ok.header c.in-Ok.ensures.answer in
    record { long = read.1; short = read.2 }

pub returns-clause-answer : goal.returns-clause-answer
returns-clause-answer g c = λ k e.
    taken_as g.B.KeyBox.keys c.args.session c.args.slots.now c.take_into.new.slots _ _
    (λ fresh. ap (λ (x : Option Parts). exchange.take_read (ours g.B.KeyBox.scheme) (draw_of k) fresh (held_of c.args.session c.args.slots.now) x) (was_read c.args.message.now c.in-Ok.header c.in-Ok.ensures.answer).0)
    c.take_into.new.out c.args.own.now c.take_into.new.own c.take_into.result (c.take_into.ensures.answer k e)
