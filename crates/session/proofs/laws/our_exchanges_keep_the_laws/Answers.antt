-- The theorem over every exchange, at our functions of the outside.
use Rattle.exchange.proofs.Promises.{every-exchange}
use Rattle.session.specs.Ours.{ours}
use Rattle.session.proofs.Kept.{ours-lawful}
use Rattle.session.proofs.laws.our_exchanges_keep_the_laws.Goals as goal

pub returns : goal.returns
returns c = λ scheme boxes. every-exchange (ours scheme) (ours-lawful scheme boxes)
