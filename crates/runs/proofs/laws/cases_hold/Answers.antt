use Rattle.runs.proofs.Computed.{cases-hold}
use Rattle.runs.proofs.laws.cases_hold.Goals as goal

pub returns : goal.returns
returns c = cases-hold
