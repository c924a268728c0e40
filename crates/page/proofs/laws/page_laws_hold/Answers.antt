use Rattle.page.proofs.Readings.{page-laws}
use Rattle.page.proofs.laws.page_laws_hold.Goals as goal

pub returns : goal.returns
returns c = page-laws
