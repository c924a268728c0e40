-- The header first, and the sealed text behind it.
use Rattle.std.proofs.Common.{◌≡◌, ℕ, List, ◌++◌, length, refl, ap, ◌∙◌, arith}
use Rattle.seal.specs.Sealing.{sealed}
use Rattle.session.proofs.Written.{message_front, message_rest}
use Rattle.session.proofs.writing.write_message.Goals as goal

pub returns : goal.returns
returns c =
    let key = c.args.key.now.0 in
    let bytes = c.write_header-bytes.result in
    let is = c.write_header-bytes.ensures.bytes in
    let size : length bytes ≡ 47 = omega arith in
    record {
      bytes =
          message_front key bytes c.args.text.now c.args.out.now c.put.new.items c.put_text.new.out c.put.ensures size c.put_text.ensures
          ∙ ap (λ (h : List ℕ). h ++ sealed key h c.args.text.now) is;
      rest = message_rest key bytes c.args.text.now c.args.out.now c.put.new.items c.put_text.new.out c.put.ensures size c.put_text.ensures;
      counted = refl;
      blank = refl;
    }
