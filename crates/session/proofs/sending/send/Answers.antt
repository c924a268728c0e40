-- The bytes that were written are the message's, and the session after it is the one that has sent it.
use Rattle.std.proofs.Common.{◌≡◌, length, refl, ap, ◌∙◌, rules}
use Rattle.ratchet.specs.State.{State, state_of}
use Rattle.session.specs.declared.sessions.Session.{Session}
use Rattle.session.specs.Views.{held_of}
use Rattle.session.proofs.Posted.{same_count, send-kept, message-bytes, send_step}
use Rattle.session.proofs.sending.send.Goals as goal

pub returns : goal.returns
returns c =
    let s = c.args.session in
    let side = c.in-Ok.sent.0 in
    let kept = c.in-Ok.ensures.answer in
    let before : length s.side.marks ≡ 512 = search rules in
    let after : length side.marks ≡ 512 = search rules in
    let skipped = ap (λ (x : State). x.skipped) (send-kept (length c.args.text.now) (state_of s.side) (state_of side) kept) in
    let count = same_count side.marks s.side.marks side.count s.side.count after before side.few s.side.few skipped in
    let t : Session = record { side = side; root = s.root; sending = c.advance.result.1; taking = s.taking; half = s.half } in
    record {
      step = λ slots scheme.
          send_step scheme slots s t c.args.text.now _ kept count refl c.advance.ensures.next_is refl refl
          (c.write_message-size.ensures.bytes
          ∙ message-bytes scheme (held_of s slots) c.args.text.now _ c.advance.result.0.0 c.in-Ok.ensures.values refl refl c.advance.ensures.key_is);
      counted = c.write_message-size.ensures.counted;
      rest = c.write_message-size.ensures.rest;
    }
