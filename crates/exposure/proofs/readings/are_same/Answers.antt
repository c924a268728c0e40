use Rattle.std.proofs.lemmas.Slice.Eq.{slice_eq-Decides}
use Rattle.exposure.proofs.Adding.{same-decides}
use Rattle.exposure.proofs.readings.are_same.Goals as goal

pub returns : goal.returns
returns c = slice_eq-Decides same-decides c.args.marks.now c.args.others.now c.eq.result c.eq.ensures
