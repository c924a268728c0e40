use Rattle.exchange.proofs.Wires.{wire_laws}
use Rattle.exchange.proofs.laws.messages_are_read_as_written.Goals as goal

pub returns : goal.returns
returns c = wire_laws
