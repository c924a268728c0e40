-- The part that was walked holds the keys along the chain.
use Rattle.std.proofs.Common.{arith}
use Rattle.std.proofs.lemmas.Slice.{drop-put_mid}
use Rattle.session.proofs.Slots.{keys_put}
use Rattle.session.proofs.along.put_along.Goals as goal

pub returns-clause-keys : goal.returns-clause-keys
returns-clause-keys c = λ scheme. keys_put c.args.slots.now c.walk.new.keys c.args.chain.now.0 c.args.at c.args.places (omega arith) c.walk.ensures.keys_are scheme (omega arith)

pub returns-clause-rest : goal.returns-clause-rest
returns-clause-rest c = drop-put_mid c.args.at _ c.args.slots.now c.walk.new.keys _ (omega arith) (omega arith) (omega arith)
