use Rattle.exchange.proofs.Computed.{worked}
use Rattle.exchange.proofs.laws.worked_exchange_holds.Goals as goal

pub returns : goal.returns
returns c = worked
