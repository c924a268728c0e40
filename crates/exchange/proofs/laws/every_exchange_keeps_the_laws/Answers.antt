use Rattle.exchange.proofs.Promises.{every-exchange}
use Rattle.exchange.proofs.laws.every_exchange_keeps_the_laws.Goals as goal

pub returns : goal.returns
returns c = every-exchange
