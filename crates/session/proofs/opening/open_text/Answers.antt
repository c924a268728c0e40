-- What stands behind the header is all the rest of the message.
use Rattle.session.proofs.Texts.{text_answered}
use Rattle.session.proofs.opening.open_text.Goals as goal

pub returns : goal.returns
returns c =
    text_answered c.args.key.now.0 c.args.message.now.bytes.now c.args.text.now c.open.new.out c.split_at.result.0.now c.split_at.result.1.now
    c.split_at.ensures.front c.split_at.ensures.back c.args.message.now.long c.args.message.now.short c.told-text c.open.result c.ok.result c.ok.ensures.value c.open.ensures.answer
