use Rattle.std.proofs.Common.{sym, ap, ◌∙◌, arith}
use Rattle.std.specs.Result.{result_ok}
use Rattle.seal.specs.Sealing.{sealed}
use Rattle.seal_vectors.proofs.Headed.{head_long, head_part, body_part}
use Rattle.seal_vectors.proofs.message.read.Goals as goal

pub returns-then-message-lt47 : goal.returns-then-message-lt47
returns-then-message-lt47 c = λ header text long small room is.
    absurd (omega (arith, head_long c.args.message.now header (sealed c.args.key.now.0 header text) long is, c.if-message-lt47.true))

pub returns : goal.returns
returns c = λ header text long small room is.
    let xs = sealed c.args.key.now.0 header text in
    let head = head_part c.args.message.now header xs long is in
    let body = body_part c.args.message.now header xs long is in
    let undone = c.«open».ensures.undoes text (body ∙ ap (λ h. sealed c.args.key.now.0 h text) (sym head)) (omega arith) room in
    (c.ok.ensures.value ∙ ap result_ok undone.opened, undone.output)
