-- The key drawn is in force.
use Rattle.std.proofs.Common.{refl, rules}
use Rattle.std.proofs.lemmas.Option.{MatchOption-at_some}
use Rattle.session.proofs.Beginnings.{starts_second}
use Rattle.session.proofs.starting.begin_second.Goals as goal

pub returns : goal.returns
returns g c =
    let drawn = MatchOption-at_some _ _ c.in_ok-half.half c.in_ok-half.ensures.ok_part c.draw.ensures in
    starts_second g.B.KeyBox.keys g.B.KeyBox.scheme _ _ _ _ drawn c.keep.ensures (search rules) refl c.args.secret.0 c.second_side.ensures refl refl
