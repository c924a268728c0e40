-- The part of the output behind the header is sealed, and all of the output lies in it.
use Rattle.session.proofs.Written.{text-put}
use Rattle.session.proofs.writing.put_text.Goals as goal

pub returns : goal.returns
returns c = text-put c.args.key.now.0 c.args.header.now c.args.text.now c.args.out.now c.seal.new.out c.seal.result c.requires c.told-out c.seal.ensures
