use Rattle.exchange.proofs.Tags.{tagged}
use Rattle.exchange.proofs.laws.tags_cover_messages.Goals as goal

pub returns : goal.returns
returns c = tagged
