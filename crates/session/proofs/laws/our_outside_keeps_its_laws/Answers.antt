use Rattle.session.proofs.Kept.{ours-lawful}
use Rattle.session.proofs.laws.our_outside_keeps_its_laws.Goals as goal

pub returns : goal.returns
returns c = ours-lawful
