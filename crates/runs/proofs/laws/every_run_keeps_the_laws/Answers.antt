use Rattle.runs.proofs.Promises.{every-run}
use Rattle.runs.proofs.laws.every_run_keeps_the_laws.Goals as goal

pub returns : goal.returns
returns c = every-run
