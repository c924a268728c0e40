use Rattle.exchange.proofs.Pins.{pinned}
use Rattle.exchange.proofs.laws.answers_are_pinned.Goals as goal

pub returns : goal.returns
returns c = pinned
