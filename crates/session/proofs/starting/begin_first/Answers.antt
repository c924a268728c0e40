-- The key drawn is in force, and link 0 is made with it.
use Rattle.std.proofs.Common.{refl, rules}
use Rattle.session.proofs.Beginnings.{starts_first}
use Rattle.session.proofs.starting.begin_first.Goals as goal

pub returns : goal.returns
returns g c =
    let made = c.in_ok-half.ensures in
    starts_first g.B.KeyBox.keys g.B.KeyBox.scheme _ _ _ _ made.drawn c.keep.ensures (search rules) refl c.args.secret.0 c.args.theirs.now.0 c.in_ok-half.joint.0
    c.first_side.ensures made.gives c.link.ensures.root_is c.link.ensures.chain_is
