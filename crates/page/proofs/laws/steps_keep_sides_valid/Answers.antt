use Rattle.page.proofs.Always.{steps_keep_valid}
use Rattle.page.proofs.laws.steps_keep_sides_valid.Goals as goal

pub returns : goal.returns
returns c = steps_keep_valid
